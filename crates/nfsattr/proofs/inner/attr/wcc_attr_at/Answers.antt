use Rattle.xdr.specs.Laws.Records.{by-plan}
use Rattle.nfsattr.specs.Meaning.Attr.{wcc-attr}
use Rattle.nfsattr.specs.Laws.Plans.{wcc-attr-plan, attr-asks}
use Rattle.xdr.specs.Laws.Answers.{exits}
use Rattle.nfsattr.proofs.inner.attr.wcc_attr_at.Goals as goal

pub returns-in_err-size : goal.returns-in_err-size
unfolding wcc-attr
returns-in_err-size c = exits _ c.from_residual.ensures.1 (search (by-plan wcc-attr-plan, attr-asks, c.in_err-size.ensures) depth 20)

pub returns-in_err-mtime : goal.returns-in_err-mtime
unfolding wcc-attr
returns-in_err-mtime c = exits _ c.from_residual-in_err-mtime.ensures.1 (search (by-plan wcc-attr-plan, attr-asks, c.in_ok-size.ensures, c.in_err-mtime.ensures) depth 20)

pub returns-in_err-ctime : goal.returns-in_err-ctime
unfolding wcc-attr
returns-in_err-ctime c = exits _ c.from_residual-in_err-ctime.ensures.1 (search (by-plan wcc-attr-plan, attr-asks, c.in_ok-size.ensures, c.in_ok-mtime.ensures, c.in_err-ctime.ensures) depth 20)

pub returns : goal.returns
unfolding wcc-attr
returns c = search (by-plan wcc-attr-plan, attr-asks, c.in_ok-size.ensures, c.in_ok-mtime.ensures, c.in_ok-ctime.ensures) depth 20
