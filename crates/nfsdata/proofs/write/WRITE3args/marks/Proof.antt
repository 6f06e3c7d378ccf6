-- made by tools/generate from crates/nfsdata/rfc/write.x
use Rattle.nfsdata.specs.Laws.Write.{write-args-marks}
use Rattle.nfsdata.proofs.write.WRITE3args.marks.Statement.{statement}
use Rattle.nfsdata.proofs.write.WRITE3args.marks.Tie as tie

pub marks_spec : {M : Type 1} → statement M
marks_spec = tie.close (tie.spec (λ c. search write-args-marks))
