-- made by tools/generate from crates/nfs/rfc/dir.x
use Rattle.nfs.specs.Laws.Dir.{symlinkdata-marks}
use Rattle.nfs.proofs.dir.symlinkdata3.marks.Statement.{statement}
use Rattle.nfs.proofs.dir.symlinkdata3.marks.Tie as tie

pub marks_spec : {M : Type 1} → statement M
marks_spec = tie.close (tie.spec (λ c. search symlinkdata-marks))
