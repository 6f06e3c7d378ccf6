use borrow.Author.Rules.{rules}
use native.Mathlib.Omega.{arith}
use Rattle.rpc.specs.Laws.Sizes.{sums}
use Rattle.rpc.proofs.fit.auth_unix_size.Statement.{statement}
use Rattle.rpc.proofs.fit.auth_unix_size.Tie as tie

pub auth_unix_size_spec : {M : Type 1} → statement M
auth_unix_size_spec = tie.close (tie.spec (search rules) (λ c. search sums) (search rules) (λ c. search sums) (λ c. (omega arith, search sums)))
