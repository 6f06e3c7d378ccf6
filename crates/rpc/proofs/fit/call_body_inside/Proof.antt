use borrow.Author.Rules.{rules}
use Rattle.rpc.specs.Laws.ReplySizes.{insides}
use Rattle.rpc.proofs.fit.call_body_inside.Statement.{statement}
use Rattle.rpc.proofs.fit.call_body_inside.Tie as tie

pub call_body_inside_spec : {M : Type 1} → statement M
call_body_inside_spec = tie.close (tie.spec (search rules) (search rules) (λ c. search insides))
