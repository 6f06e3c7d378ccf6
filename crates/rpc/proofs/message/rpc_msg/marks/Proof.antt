use borrow.Author.Rules.{rules}
use Rattle.rpc.specs.Laws.Marked.{message-marks}
use Rattle.rpc.proofs.message.rpc_msg.marks.Statement.{statement}
use Rattle.rpc.proofs.message.rpc_msg.marks.Tie as tie

pub marks_spec : {M : Type 1} → statement M
marks_spec = tie.close (tie.spec (search rules) (λ c. search message-marks))
