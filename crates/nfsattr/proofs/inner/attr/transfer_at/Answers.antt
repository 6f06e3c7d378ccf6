use Rattle.xdr.specs.Laws.Records.{by-plan}
use Rattle.nfsattr.specs.Laws.Groups.{transfer}
use Rattle.nfsattr.specs.Laws.Plans.{transfer-plan, attr-asks}
use Rattle.xdr.specs.Laws.Answers.{exits}
use Rattle.nfsattr.proofs.inner.attr.transfer_at.Goals as goal

pub returns-in_err-max : goal.returns-in_err-max
unfolding transfer
returns-in_err-max c = exits _ c.from_residual.ensures.1 (search (by-plan transfer-plan, attr-asks, c.in_err-max.ensures) depth 20)

pub returns-in_err-pref_and_mult : goal.returns-in_err-pref_and_mult
unfolding transfer
returns-in_err-pref_and_mult c = exits _ c.from_residual-in_err-pref_and_mult.ensures.1 (search (by-plan transfer-plan, attr-asks, c.in_ok-max.ensures, c.in_err-pref_and_mult.ensures) depth 20)

pub returns : goal.returns
unfolding transfer
returns c = search (by-plan transfer-plan, attr-asks, c.in_ok-max.ensures, c.in_ok-pref_and_mult.ensures) depth 20
