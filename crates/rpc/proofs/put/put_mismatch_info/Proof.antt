use borrow.Author.Rules.{rules}
use Rattle.rpc.specs.Laws.ReplyPuts.{puts}
use Rattle.rpc.proofs.put.put_mismatch_info.Statement.{statement}
use Rattle.rpc.proofs.put.put_mismatch_info.Tie as tie

pub put_mismatch_info_spec : {M : Type 1} → statement M
put_mismatch_info_spec = tie.close (tie.spec (search rules) (search rules) (λ c. search puts))
