-- made by tools/generate from crates/nfsfile/rfc/getattr.x
use borrow.Author.Rules.{rules}
use Rattle.xdr.specs.Laws.Status.{ok-marks, alone-marks}
use Rattle.xdr.specs.Laws.Unpadded.{no-marks}
use Rattle.nfsfile.specs.Laws.Getattr.{getattr-res-status}
use Rattle.nfsfile.proofs.getattr.GETATTR3res.marks.Statement.{statement}
use Rattle.nfsfile.proofs.getattr.GETATTR3res.marks.Tie as tie

pub marks_spec : {M : Type 1} → statement M
marks_spec = tie.close (tie.spec (search rules) (search rules) (λ c. search (ok-marks getattr-res-status, no-marks)) (λ c. search (alone-marks getattr-res-status)))
