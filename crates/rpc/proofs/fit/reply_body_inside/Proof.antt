use borrow.Author.Rules.{rules}
use Rattle.rpc.specs.Laws.ReplySizes.{insides}
use Rattle.rpc.proofs.fit.reply_body_inside.Statement.{statement}
use Rattle.rpc.proofs.fit.reply_body_inside.Tie as tie

pub reply_body_inside_spec : {M : Type 1} → statement M
reply_body_inside_spec = tie.close (tie.spec (search rules) (search rules) (search rules) (λ c. search insides) (λ c. search insides))
