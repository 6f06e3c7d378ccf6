-- made by tools/generate from crates/mount/rfc/mnt.x
use Rattle.mount.specs.Laws.Mnt.{mountres-ok-marks}
use Rattle.mount.proofs.mnt.mountres3_ok.marks.Statement.{statement}
use Rattle.mount.proofs.mnt.mountres3_ok.marks.Tie as tie

pub marks_spec : {M : Type 1} → statement M
marks_spec = tie.close (tie.spec (λ c. search mountres-ok-marks))
