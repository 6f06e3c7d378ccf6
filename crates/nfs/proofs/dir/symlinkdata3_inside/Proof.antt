-- made by tools/generate from crates/nfs/rfc/dir.x
use borrow.Author.Rules.{rules}
use Rattle.nfs.specs.Laws.Dir.{symlinkdata-inside}
use Rattle.nfs.proofs.dir.symlinkdata3_inside.Statement.{statement}
use Rattle.nfs.proofs.dir.symlinkdata3_inside.Tie as tie

pub symlinkdata3_inside_spec : {M : Type 1} → statement M
symlinkdata3_inside_spec = tie.close (tie.spec (search rules) (λ c. search symlinkdata-inside))
