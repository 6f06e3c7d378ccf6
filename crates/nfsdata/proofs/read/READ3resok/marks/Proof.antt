-- made by tools/generate from crates/nfsdata/rfc/read.x
use Rattle.nfsdata.specs.Laws.Read.{read-resok-marks}
use Rattle.nfsdata.proofs.read.READ3resok.marks.Statement.{statement}
use Rattle.nfsdata.proofs.read.READ3resok.marks.Tie as tie

pub marks_spec : {M : Type 1} → statement M
marks_spec = tie.close (tie.spec (λ c. search read-resok-marks))
