-- made by tools/generate from kinds.txt
use borrow.Author.Rules.{rules}
use Rattle.xdr.specs.Laws.Marked.{words-marks}
use Rattle.door.proofs.items.WordsKind.marks.Goals as goal

pub returns : goal.returns
returns c = search (rules, words-marks)
