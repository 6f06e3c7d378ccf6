use borrow.Author.Rules.{rules}
use Rattle.rpc.specs.Laws.Closed.{numbered}
use Rattle.rpc.proofs.write.write_msg_type.Statement.{statement}
use Rattle.rpc.proofs.write.write_msg_type.Tie as tie

pub write_msg_type_spec : {M : Type 1} → statement M
write_msg_type_spec = tie.close (tie.spec (search rules) (search rules) (search rules) (λ c. search numbered))
