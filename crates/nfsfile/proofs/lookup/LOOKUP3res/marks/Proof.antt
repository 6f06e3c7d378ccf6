-- made by tools/generate from crates/nfsfile/rfc/lookup.x
use borrow.Author.Rules.{rules}
use Rattle.xdr.specs.Laws.Status.{ok-marks, failed-marks}
use Rattle.xdr.specs.Laws.Unpadded.{no-marks}
use Rattle.nfsfile.specs.Laws.Lookup.{lookup-res-status}
use Rattle.nfsfile.proofs.lookup.LOOKUP3res.marks.Statement.{statement}
use Rattle.nfsfile.proofs.lookup.LOOKUP3res.marks.Tie as tie

pub marks_spec : {M : Type 1} → statement M
marks_spec = tie.close (tie.spec (search rules) (search rules) (search rules) (λ c. search (ok-marks lookup-res-status)) (λ c. search (failed-marks lookup-res-status, no-marks)))
