use borrow.Author.Rules.{rules}
use native.Mathlib.Omega.{arith}
use Rattle.rpc.specs.Laws.Sizes.{same_size}
use Rattle.rpc.specs.Laws.ReplySizes.{body_size}
use Rattle.rpc.specs.Meaning.Current.{current}
use Rattle.rpc.proofs.current.fit.rpc_body_size.Statement.{statement}
use Rattle.rpc.proofs.current.fit.rpc_body_size.Tie as tie

pub rpc_body_size_spec : {M : Type 1} → statement M
rpc_body_size_spec =
    tie.close
    (tie.spec
    (search rules) (search rules) (search rules) (search rules) (search rules) (search rules) (λ c. omega (arith, same_size (body_size current)))
    (λ c. omega (arith, same_size (body_size current))))
