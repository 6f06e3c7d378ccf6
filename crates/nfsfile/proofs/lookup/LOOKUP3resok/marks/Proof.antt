-- made by tools/generate from crates/nfsfile/rfc/lookup.x
use Rattle.nfsfile.specs.Laws.Lookup.{lookup-resok-marks}
use Rattle.nfsfile.proofs.lookup.LOOKUP3resok.marks.Statement.{statement}
use Rattle.nfsfile.proofs.lookup.LOOKUP3resok.marks.Tie as tie

pub marks_spec : {M : Type 1} → statement M
marks_spec = tie.close (tie.spec (λ c. search lookup-resok-marks))
