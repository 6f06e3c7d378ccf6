-- made by tools/generate from crates/nfs/rfc/dir.x
use Rattle.xdr.specs.Laws.Plans.{planned, asks}
use Rattle.xdr.specs.Laws.Answers.{exits}
use Rattle.nfs.specs.Laws.Dir.{symlinkdata-plan}
use Rattle.nfs.specs.Meaning.Dir.{symlinkdata}
use Rattle.nfs.proofs.dir.symlinkdata3_at.Goals as goal

pub returns-in_err-symlink_attributes : goal.returns-in_err-symlink_attributes
unfolding symlinkdata
returns-in_err-symlink_attributes c = exits _ c.from_residual.ensures.1 (search (planned symlinkdata-plan, asks, c.in_err-symlink_attributes.ensures) depth 20)

pub returns-in_err-symlink_data : goal.returns-in_err-symlink_data
unfolding symlinkdata
returns-in_err-symlink_data c = exits _ c.from_residual-in_err-symlink_data.ensures.1 (search (planned symlinkdata-plan, asks, c.in_ok-symlink_attributes.ensures, c.in_err-symlink_data.ensures) depth 20)

pub returns : goal.returns
unfolding symlinkdata
returns c = search (planned symlinkdata-plan, asks, c.in_ok-symlink_attributes.ensures, c.in_ok-symlink_data.ensures) depth 20
