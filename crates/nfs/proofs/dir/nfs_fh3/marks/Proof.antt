-- made by tools/generate from crates/nfs/rfc/dir.x
use Rattle.nfs.specs.Laws.Dir.{nfs-fh-marks}
use Rattle.nfs.proofs.dir.nfs_fh3.marks.Statement.{statement}
use Rattle.nfs.proofs.dir.nfs_fh3.marks.Tie as tie

pub marks_spec : {M : Type 1} → statement M
marks_spec = tie.close (tie.spec (λ c. search nfs-fh-marks))
