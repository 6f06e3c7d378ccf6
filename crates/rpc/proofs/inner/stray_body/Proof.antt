use borrow.Author.Rules.{rules}
use Rattle.rpc.proofs.inner.stray_body.Statement.{statement}
use Rattle.rpc.proofs.inner.stray_body.Tie as tie

pub stray-body-spec : {M : Type 1} → statement M
stray-body-spec = tie.close (tie.spec (search rules) (search rules) (λ c. cc))
