-- made by tools/generate from crates/nfsfile/rfc/setattr.x
use Rattle.nfsfile.specs.Laws.Setattr.{setattr-args-marks}
use Rattle.nfsfile.proofs.setattr.SETATTR3args.marks.Statement.{statement}
use Rattle.nfsfile.proofs.setattr.SETATTR3args.marks.Tie as tie

pub marks_spec : {M : Type 1} → statement M
marks_spec = tie.close (tie.spec (λ c. search setattr-args-marks))
