-- made by tools/generate from crates/nfs/rfc/dir.x
use borrow.Author.Rules.{rules}
use Rattle.nfs.specs.Laws.Dir.{nfs-fh-inside}
use Rattle.nfs.proofs.dir.nfs_fh3_inside.Statement.{statement}
use Rattle.nfs.proofs.dir.nfs_fh3_inside.Tie as tie

pub nfs_fh3_inside_spec : {M : Type 1} → statement M
nfs_fh3_inside_spec = tie.close (tie.spec (search rules) (λ c. search nfs-fh-inside))
