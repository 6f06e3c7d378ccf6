use borrow.Author.Rules.{rules}
use Rattle.rpc.specs.Laws.Closed.{numbered}
use Rattle.rpc.proofs.write.write_auth_stat.Statement.{statement}
use Rattle.rpc.proofs.write.write_auth_stat.Tie as tie

pub write_auth_stat_spec : {M : Type 1} → statement M
write_auth_stat_spec = tie.close (tie.spec (search rules) (search rules) (search rules) (λ c. search numbered))
