use Rattle.xdr.specs.Laws.Records.{by-plan}
use Rattle.nfsattr.specs.Meaning.Attr.{wcc-data}
use Rattle.nfsattr.specs.Laws.Plans.{wcc-data-plan, attr-asks}
use Rattle.xdr.specs.Laws.Answers.{exits}
use Rattle.nfsattr.proofs.inner.attr.wcc_data_at.Goals as goal

pub returns-in_err-before : goal.returns-in_err-before
unfolding wcc-data
returns-in_err-before c = exits _ c.from_residual.ensures.1 (search (by-plan wcc-data-plan, attr-asks, c.in_err-before.ensures) depth 20)

pub returns-in_err-after : goal.returns-in_err-after
unfolding wcc-data
returns-in_err-after c = exits _ c.from_residual-in_err-after.ensures.1 (search (by-plan wcc-data-plan, attr-asks, c.in_ok-before.ensures, c.in_err-after.ensures) depth 20)

pub returns : goal.returns
unfolding wcc-data
returns c = search (by-plan wcc-data-plan, attr-asks, c.in_ok-before.ensures, c.in_ok-after.ensures) depth 20
