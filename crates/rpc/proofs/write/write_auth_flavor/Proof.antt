use borrow.Author.Rules.{rules}
use Rattle.rpc.specs.Laws.Closed.{numbered}
use Rattle.rpc.proofs.write.write_auth_flavor.Statement.{statement}
use Rattle.rpc.proofs.write.write_auth_flavor.Tie as tie

pub write_auth_flavor_spec : {M : Type 1} → statement M
write_auth_flavor_spec = tie.close (tie.spec (search rules) (search rules) (search rules) (λ c. search numbered))
