use Rattle.xdr.specs.Laws.Records.{by-plan}
use Rattle.nfsattr.specs.Laws.Groups.{times}
use Rattle.nfsattr.specs.Laws.Plans.{times-plan, attr-asks}
use Rattle.xdr.specs.Laws.Answers.{exits}
use Rattle.nfsattr.proofs.inner.attr.times_at.Goals as goal

pub returns-in_err-atime : goal.returns-in_err-atime
unfolding times
returns-in_err-atime c = exits _ c.from_residual.ensures.1 (search (by-plan times-plan, attr-asks, c.in_err-atime.ensures) depth 20)

pub returns-in_err-mtime : goal.returns-in_err-mtime
unfolding times
returns-in_err-mtime c = exits _ c.from_residual-in_err-mtime.ensures.1 (search (by-plan times-plan, attr-asks, c.in_ok-atime.ensures, c.in_err-mtime.ensures) depth 20)

pub returns-in_err-ctime : goal.returns-in_err-ctime
unfolding times
returns-in_err-ctime c = exits _ c.from_residual-in_err-ctime.ensures.1 (search (by-plan times-plan, attr-asks, c.in_ok-atime.ensures, c.in_ok-mtime.ensures, c.in_err-ctime.ensures) depth 20)

pub returns : goal.returns
unfolding times
returns c = search (by-plan times-plan, attr-asks, c.in_ok-atime.ensures, c.in_ok-mtime.ensures, c.in_ok-ctime.ensures) depth 20
