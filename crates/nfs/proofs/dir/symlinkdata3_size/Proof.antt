-- made by tools/generate from crates/nfs/rfc/dir.x
use native.Mathlib.Omega.{arith}
use borrow.Author.Rules.{rules}
use Rattle.xdr.specs.Laws.Lays.{sums}
use Rattle.nfs.specs.Laws.Bytes.{sattr-small}
use Rattle.nfs.proofs.dir.symlinkdata3_size.Statement.{statement}
use Rattle.nfs.proofs.dir.symlinkdata3_size.Tie as tie

pub symlinkdata3_size_spec : {M : Type 1} → statement M
symlinkdata3_size_spec = tie.close (tie.spec (search rules) (search rules) (λ c. search (sums, sattr-small)) (λ c. omega arith))
