use borrow.Author.Rules.{rules}
use Rattle.rpc.specs.Laws.ReplySizes.{insides}
use Rattle.rpc.proofs.fit.accepted_reply_inside.Statement.{statement}
use Rattle.rpc.proofs.fit.accepted_reply_inside.Tie as tie

pub accepted_reply_inside_spec : {M : Type 1} → statement M
accepted_reply_inside_spec = tie.close (tie.spec (search rules) (λ c. search insides))
