-- made by tools/generate from crates/nfs/rfc/dir.x
use native.Mathlib.Omega.{arith}
use borrow.Author.Rules.{rules}
use Rattle.xdr.specs.Laws.Lays.{sums}
use Rattle.nfs.specs.Laws.Dir.{nfs-fh-most}
use Rattle.nfs.proofs.dir.diropargs3_size.Statement.{statement}
use Rattle.nfs.proofs.dir.diropargs3_size.Tie as tie

pub diropargs3_size_spec : {M : Type 1} → statement M
diropargs3_size_spec = tie.close (tie.spec (search rules) (search rules) (λ c. search (sums, nfs-fh-most)) (λ c. omega arith))
