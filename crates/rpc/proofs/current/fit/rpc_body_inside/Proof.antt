use borrow.Author.Rules.{rules}
use Rattle.rpc.specs.Laws.ReplySizes.{insides}
use Rattle.rpc.proofs.current.fit.rpc_body_inside.Statement.{statement}
use Rattle.rpc.proofs.current.fit.rpc_body_inside.Tie as tie

pub rpc_body_inside_spec : {M : Type 1} → statement M
rpc_body_inside_spec = tie.close (tie.spec (search rules) (search rules) (search rules) (search rules) (λ c. search insides) (λ c. search insides))
