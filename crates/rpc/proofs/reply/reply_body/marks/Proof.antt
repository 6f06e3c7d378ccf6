use borrow.Author.Rules.{rules}
use Rattle.rpc.specs.Laws.Marked.{message-marks}
use Rattle.rpc.proofs.reply.reply_body.marks.Statement.{statement}
use Rattle.rpc.proofs.reply.reply_body.marks.Tie as tie

pub marks_spec : {M : Type 1} → statement M
marks_spec = tie.close (tie.spec (search rules) (search rules) (search rules) (λ c. search message-marks) (λ c. search message-marks))
