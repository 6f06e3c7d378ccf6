use Rattle.xdr.specs.Laws.Records.{by-plan}
use Rattle.nfsattr.specs.Laws.Groups.{limits}
use Rattle.nfsattr.specs.Laws.Plans.{limits-plan, attr-asks}
use Rattle.xdr.specs.Laws.Answers.{exits}
use Rattle.nfsattr.proofs.inner.attr.limits_at.Goals as goal

pub returns-in_err-dtpref : goal.returns-in_err-dtpref
unfolding limits
returns-in_err-dtpref c = exits _ c.from_residual.ensures.1 (search (by-plan limits-plan, attr-asks, c.in_err-dtpref.ensures) depth 20)

pub returns-in_err-maxfilesize : goal.returns-in_err-maxfilesize
unfolding limits
returns-in_err-maxfilesize c = exits _ c.from_residual-in_err-maxfilesize.ensures.1 (search (by-plan limits-plan, attr-asks, c.in_ok-dtpref.ensures, c.in_err-maxfilesize.ensures) depth 20)

pub returns-in_err-time_delta : goal.returns-in_err-time_delta
unfolding limits
returns-in_err-time_delta c = exits _ c.from_residual-in_err-time_delta.ensures.1 (search (by-plan limits-plan, attr-asks, c.in_ok-dtpref.ensures, c.in_ok-maxfilesize.ensures, c.in_err-time_delta.ensures) depth 20)

pub returns-in_err-properties : goal.returns-in_err-properties
unfolding limits
returns-in_err-properties c = exits _ c.from_residual-in_err-properties.ensures.1 (search (by-plan limits-plan, attr-asks, c.in_ok-dtpref.ensures, c.in_ok-maxfilesize.ensures, c.in_ok-time_delta.ensures, c.in_err-properties.ensures) depth 20)

pub returns : goal.returns
unfolding limits
returns c = search (by-plan limits-plan, attr-asks, c.in_ok-dtpref.ensures, c.in_ok-maxfilesize.ensures, c.in_ok-time_delta.ensures, c.in_ok-properties.ensures) depth 20
