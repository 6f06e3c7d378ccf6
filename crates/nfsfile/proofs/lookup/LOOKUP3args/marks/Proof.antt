-- made by tools/generate from crates/nfsfile/rfc/lookup.x
use Rattle.nfsfile.specs.Laws.Lookup.{lookup-args-marks}
use Rattle.nfsfile.proofs.lookup.LOOKUP3args.marks.Statement.{statement}
use Rattle.nfsfile.proofs.lookup.LOOKUP3args.marks.Tie as tie

pub marks_spec : {M : Type 1} → statement M
marks_spec = tie.close (tie.spec (λ c. search lookup-args-marks))
