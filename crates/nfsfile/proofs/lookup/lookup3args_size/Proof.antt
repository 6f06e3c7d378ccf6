-- made by tools/generate from crates/nfsfile/rfc/lookup.x
use native.Mathlib.Omega.{arith}
use borrow.Author.Rules.{rules}
use Rattle.nfsfile.proofs.lookup.lookup3args_size.Statement.{statement}
use Rattle.nfsfile.proofs.lookup.lookup3args_size.Tie as tie

pub lookup3args_size_spec : {M : Type 1} → statement M
lookup3args_size_spec = tie.close (tie.spec (search rules) (λ c. omega arith))
