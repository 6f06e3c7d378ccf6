-- made by tools/generate from crates/nfsdata/rfc/read.x
use borrow.Author.Rules.{rules}
use Rattle.xdr.specs.Laws.Status.{ok-marks, failed-marks}
use Rattle.xdr.specs.Laws.Unpadded.{no-marks}
use Rattle.nfsdata.specs.Laws.Read.{read-res-status}
use Rattle.nfsdata.proofs.read.READ3res.marks.Statement.{statement}
use Rattle.nfsdata.proofs.read.READ3res.marks.Tie as tie

pub marks_spec : {M : Type 1} → statement M
marks_spec = tie.close (tie.spec (search rules) (search rules) (search rules) (λ c. search (ok-marks read-res-status)) (λ c. search (failed-marks read-res-status, no-marks)))
