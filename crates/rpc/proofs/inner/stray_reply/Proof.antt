use borrow.Author.Rules.{rules}
use Rattle.rpc.proofs.inner.stray_reply.Statement.{statement}
use Rattle.rpc.proofs.inner.stray_reply.Tie as tie

pub stray_reply_spec : {M : Type 1} → statement M
stray_reply_spec = tie.close (tie.spec (search rules) (λ c. cc))
