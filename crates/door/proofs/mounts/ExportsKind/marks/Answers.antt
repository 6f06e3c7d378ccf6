-- made by tools/generate from kinds.txt
use borrow.Author.Rules.{rules}
use Rattle.mount.specs.Laws.Marked.{exports-marks}
use Rattle.door.proofs.mounts.ExportsKind.marks.Goals as goal

pub returns : goal.returns
returns c = search (rules, exports-marks)
