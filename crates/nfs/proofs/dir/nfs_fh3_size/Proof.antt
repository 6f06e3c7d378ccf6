-- made by tools/generate from crates/nfs/rfc/dir.x
use native.Mathlib.Omega.{arith}
use borrow.Author.Rules.{rules}
use Rattle.nfs.proofs.dir.nfs_fh3_size.Statement.{statement}
use Rattle.nfs.proofs.dir.nfs_fh3_size.Tie as tie

pub nfs_fh3_size_spec : {M : Type 1} → statement M
nfs_fh3_size_spec = tie.close (tie.spec (search rules) (λ c. omega arith))
