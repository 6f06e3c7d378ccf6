-- made by tools/generate from crates/nfsfile/rfc/setattr.x
use native.Mathlib.Omega.{arith}
use borrow.Author.Rules.{rules}
use Rattle.xdr.specs.Laws.Lays.{sums}
use Rattle.nfs.specs.Laws.Bytes.{sattr-small}
use Rattle.nfs.specs.Laws.Dir.{nfs-fh-most}
use Rattle.nfsfile.specs.Laws.Setattr.{sattrguard-small}
use Rattle.nfsfile.proofs.setattr.setattr3args_size.Statement.{statement}
use Rattle.nfsfile.proofs.setattr.setattr3args_size.Tie as tie

pub setattr3args_size_spec : {M : Type 1} → statement M
setattr3args_size_spec = tie.close (tie.spec (search rules) (search rules) (λ c. search (sums, nfs-fh-most, sattr-small, sattrguard-small)) (search rules) (λ c. search (sums, nfs-fh-most, sattr-small, sattrguard-small)) (λ c. omega arith))
