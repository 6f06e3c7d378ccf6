use borrow.Author.Rules.{rules}
use Rattle.rpc.proofs.makers.accepted_with.Statement.{statement}
use Rattle.rpc.proofs.makers.accepted_with.Tie as tie

pub accepted_with_spec : {M : Type 1} → statement M
accepted_with_spec = tie.close (tie.spec (search rules) (λ c. cc))
