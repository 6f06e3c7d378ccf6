-- made by tools/generate from kinds.txt
use borrow.Author.Rules.{rules}
use Rattle.mount.specs.Laws.Marked.{dirpath-marks}
use Rattle.door.proofs.mounts.DirpathKind.marks.Goals as goal

pub returns : goal.returns
returns c = search (rules, dirpath-marks)
