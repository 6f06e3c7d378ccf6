use borrow.Author.Rules.{rules}
use Rattle.door.specs.Laws.Span.{span-in, span-plain}
use Rattle.door.proofs.kind.copy_plain.Goals as goal

pub write_span-w-requires : goal.write_span-w-requires
write_span-w-requires g c = search (rules, span-in)

pub returns-in-Ok : goal.returns-in-Ok
returns-in-Ok g c = search (rules, span-plain, g.met.K.Plain.plain)
