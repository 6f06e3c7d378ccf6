-- made by tools/generate from crates/nfsdata/rfc/write.x
use native.Mathlib.Omega.{arith}
use borrow.Author.Rules.{rules}
use Rattle.xdr.specs.Laws.Lays.{sums}
use Rattle.nfs.specs.Laws.Dir.{nfs-fh-most}
use Rattle.nfsdata.proofs.write.write3args_size.Statement.{statement}
use Rattle.nfsdata.proofs.write.write3args_size.Tie as tie

pub write3args_size_spec : {M : Type 1} → statement M
write3args_size_spec = tie.close (tie.spec (search rules) (search rules) (λ c. search (sums, nfs-fh-most)) (λ c. search (sums, nfs-fh-most)) (λ c. omega arith))
