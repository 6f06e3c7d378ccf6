use borrow.Author.Rules.{rules}
use Rattle.rpc.specs.Laws.ReplySizes.{insides}
use Rattle.rpc.proofs.fit.opaque_auth_inside.Statement.{statement}
use Rattle.rpc.proofs.fit.opaque_auth_inside.Tie as tie

pub opaque_auth_inside_spec : {M : Type 1} → statement M
opaque_auth_inside_spec = tie.close (tie.spec (search rules) (λ c. search insides))
