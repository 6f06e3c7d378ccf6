use borrow.Author.Rules.{rules}
use native.Mathlib.Omega.{arith}
use Rattle.rpc.specs.Laws.Sizes.{same_size}
use Rattle.rpc.specs.Laws.ReplySizes.{accept_size}
use Rattle.rpc.specs.Meaning.Current.{current}
use Rattle.rpc.proofs.current.fit.accept_body_size.Statement.{statement}
use Rattle.rpc.proofs.current.fit.accept_body_size.Tie as tie

pub accept_body_size_spec : {M : Type 1} → statement M
accept_body_size_spec = tie.close (tie.spec (search rules) (search rules) (search rules) (search rules) (search rules) (search rules) (search rules) (λ c. omega (arith, same_size (accept_size current))) (λ c. omega (arith, same_size (accept_size current))) (λ c. omega (arith, same_size (accept_size current))) (λ c. omega (arith, same_size (accept_size current))) (λ c. omega (arith, same_size (accept_size current))) (λ c. omega (arith, same_size (accept_size current))))
