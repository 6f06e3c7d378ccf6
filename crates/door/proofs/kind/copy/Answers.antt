use borrow.Author.Rules.{rules}
use Rattle.door.specs.Laws.Span.{span-in, span-read}
use Rattle.door.proofs.kind.copy.Goals as goal

pub write_span-requires : goal.write_span-requires
write_span-requires g c = search (rules, span-in)

pub returns-then-x : goal.returns-then-x
returns-then-x g c = search (rules, span-read)
