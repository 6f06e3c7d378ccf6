use borrow.Author.Rules.{rules}
use Rattle.rpc.specs.Laws.Current.{numbered}
use Rattle.rpc.proofs.current.write.write_current_auth_stat.Statement.{statement}
use Rattle.rpc.proofs.current.write.write_current_auth_stat.Tie as tie

pub write_current_auth_stat_spec : {M : Type 1} → statement M
write_current_auth_stat_spec = tie.close (tie.spec (search rules) (search rules) (search rules) (λ c. search numbered))
