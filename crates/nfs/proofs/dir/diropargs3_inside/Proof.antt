-- made by tools/generate from crates/nfs/rfc/dir.x
use borrow.Author.Rules.{rules}
use Rattle.nfs.specs.Laws.Dir.{diropargs-inside}
use Rattle.nfs.proofs.dir.diropargs3_inside.Statement.{statement}
use Rattle.nfs.proofs.dir.diropargs3_inside.Tie as tie

pub diropargs3_inside_spec : {M : Type 1} → statement M
diropargs3_inside_spec = tie.close (tie.spec (search rules) (search rules) (λ c. search diropargs-inside))
