use borrow.Author.Rules.{rules}
use Rattle.rpc.proofs.current.inner.stray_body.Statement.{statement}
use Rattle.rpc.proofs.current.inner.stray_body.Tie as tie

pub stray_body_spec : {M : Type 1} → statement M
stray_body_spec = tie.close (tie.spec (search rules) (search rules) (λ c. cc))
