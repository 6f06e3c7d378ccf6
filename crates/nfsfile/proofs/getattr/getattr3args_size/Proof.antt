-- made by tools/generate from crates/nfsfile/rfc/getattr.x
use native.Mathlib.Omega.{arith}
use borrow.Author.Rules.{rules}
use Rattle.nfsfile.proofs.getattr.getattr3args_size.Statement.{statement}
use Rattle.nfsfile.proofs.getattr.getattr3args_size.Tie as tie

pub getattr3args_size_spec : {M : Type 1} → statement M
getattr3args_size_spec = tie.close (tie.spec (search rules) (λ c. omega arith))
