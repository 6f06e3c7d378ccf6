-- made by tools/generate from kinds.txt
use borrow.Author.Rules.{rules}
use Rattle.door.specs.Laws.Span.{eight-marks}
use Rattle.door.proofs.items.EightKind.marks.Goals as goal

pub returns : goal.returns
returns c = search (rules, eight-marks)
