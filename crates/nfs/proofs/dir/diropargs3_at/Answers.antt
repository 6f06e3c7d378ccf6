-- made by tools/generate from crates/nfs/rfc/dir.x
use Rattle.xdr.specs.Laws.Plans.{planned, asks}
use Rattle.xdr.specs.Laws.Answers.{exits}
use Rattle.nfs.specs.Laws.Dir.{diropargs-plan}
use Rattle.nfs.specs.Meaning.Dir.{diropargs}
use Rattle.nfs.proofs.dir.diropargs3_at.Goals as goal

pub returns-in_err-dir : goal.returns-in_err-dir
unfolding diropargs
returns-in_err-dir c = exits _ c.from_residual.ensures.1 (search (planned diropargs-plan, asks, c.in_err-dir.ensures) depth 20)

pub returns-in_err-name : goal.returns-in_err-name
unfolding diropargs
returns-in_err-name c = exits _ c.from_residual-in_err-name.ensures.1 (search (planned diropargs-plan, asks, c.in_ok-dir.ensures, c.in_err-name.ensures) depth 20)

pub returns : goal.returns
unfolding diropargs
returns c = search (planned diropargs-plan, asks, c.in_ok-dir.ensures, c.in_ok-name.ensures) depth 20
