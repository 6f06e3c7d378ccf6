-- made by tools/generate from crates/nfs/rfc/dir.x
use borrow.Author.Rules.{rules}
use Rattle.nfs.specs.Laws.Dir.{nfs-fh-laid}
use Rattle.nfs.proofs.dir.put_nfs_fh3.Statement.{statement}
use Rattle.nfs.proofs.dir.put_nfs_fh3.Tie as tie

pub put_nfs_fh3_spec : {M : Type 1} → statement M
put_nfs_fh3_spec = tie.close (tie.spec (search rules) (search rules) (λ c. search nfs-fh-laid))
