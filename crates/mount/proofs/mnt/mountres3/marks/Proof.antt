-- made by tools/generate from crates/mount/rfc/mnt.x
use borrow.Author.Rules.{rules}
use Rattle.xdr.specs.Laws.Status.{ok-marks, alone-marks}
use Rattle.mount.specs.Laws.Mnt.{mountres-status}
use Rattle.mount.proofs.mnt.mountres3.marks.Statement.{statement}
use Rattle.mount.proofs.mnt.mountres3.marks.Tie as tie

pub marks_spec : {M : Type 1} → statement M
marks_spec = tie.close (tie.spec (search rules) (search rules) (search rules) (λ c. search (ok-marks mountres-status)) (λ c. search (alone-marks mountres-status)))
