-- made by tools/generate from kinds.txt
use borrow.Author.Rules.{rules}
use Rattle.xdr.specs.Laws.Marked.{piece-marks}
use Rattle.door.proofs.items.OpaqueKind.marks.Goals as goal

pub returns : goal.returns
returns c = search (rules, piece-marks)
