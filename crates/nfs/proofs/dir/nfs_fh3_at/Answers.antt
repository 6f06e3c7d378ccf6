-- made by tools/generate from crates/nfs/rfc/dir.x
use Rattle.xdr.specs.Laws.Plans.{planned, asks}
use Rattle.xdr.specs.Laws.Answers.{exits}
use Rattle.nfs.specs.Laws.Dir.{nfs-fh-plan}
use Rattle.nfs.specs.Meaning.Dir.{nfs_fh}
use Rattle.nfs.proofs.dir.nfs_fh3_at.Goals as goal

pub returns-in_err-data : goal.returns-in_err-data
unfolding nfs_fh
returns-in_err-data c = exits _ c.from_residual.ensures.1 (search (planned nfs-fh-plan, asks, c.in_err-data.ensures) depth 20)

pub returns : goal.returns
unfolding nfs_fh
returns c = search (planned nfs-fh-plan, asks, c.in_ok-data.ensures) depth 20
