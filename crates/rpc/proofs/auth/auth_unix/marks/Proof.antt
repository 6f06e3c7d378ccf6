use Rattle.rpc.specs.Laws.Marked.{message-marks}
use Rattle.rpc.proofs.auth.auth_unix.marks.Statement.{statement}
use Rattle.rpc.proofs.auth.auth_unix.marks.Tie as tie

pub marks_spec : {M : Type 1} → statement M
marks_spec = tie.close (tie.spec (λ c. search message-marks))
