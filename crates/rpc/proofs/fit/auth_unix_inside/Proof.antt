use borrow.Author.Rules.{rules}
use Rattle.rpc.specs.Laws.ReplySizes.{insides}
use Rattle.rpc.proofs.fit.auth_unix_inside.Statement.{statement}
use Rattle.rpc.proofs.fit.auth_unix_inside.Tie as tie

pub auth_unix_inside_spec : {M : Type 1} → statement M
auth_unix_inside_spec = tie.close (tie.spec (search rules) (search rules) (λ c. search insides))
