-- made by tools/generate from crates/nfsfile/rfc/getattr.x
use Rattle.nfsfile.specs.Laws.Getattr.{getattr-args-marks}
use Rattle.nfsfile.proofs.getattr.GETATTR3args.marks.Statement.{statement}
use Rattle.nfsfile.proofs.getattr.GETATTR3args.marks.Tie as tie

pub marks_spec : {M : Type 1} → statement M
marks_spec = tie.close (tie.spec (λ c. search getattr-args-marks))
