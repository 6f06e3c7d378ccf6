use Rattle.xdr.specs.Laws.Records.{by-plan}
use Rattle.nfsattr.specs.Meaning.Attr.{fsinfo}
use Rattle.nfsattr.specs.Laws.Plans.{fsinfo-plan, attr-asks}
use Rattle.xdr.specs.Laws.Answers.{exits}
use Rattle.nfsattr.proofs.inner.attr.fsinfo3_at.Goals as goal

pub returns-in_err-obj_attributes : goal.returns-in_err-obj_attributes
unfolding fsinfo
returns-in_err-obj_attributes c = exits _ c.from_residual.ensures.1 (search (by-plan fsinfo-plan, attr-asks, c.in_err-obj_attributes.ensures) depth 20)

pub returns-in_err-rt : goal.returns-in_err-rt
unfolding fsinfo
returns-in_err-rt c = exits _ c.from_residual-in_err-rt.ensures.1 (search (by-plan fsinfo-plan, attr-asks, c.in_ok-obj_attributes.ensures, c.in_err-rt.ensures) depth 20)

pub returns-in_err-wt : goal.returns-in_err-wt
unfolding fsinfo
returns-in_err-wt c = exits _ c.from_residual-in_err-wt.ensures.1 (search (by-plan fsinfo-plan, attr-asks, c.in_ok-obj_attributes.ensures, c.in_ok-rt.ensures, c.in_err-wt.ensures) depth 20)

pub returns-in_err-rest : goal.returns-in_err-rest
unfolding fsinfo
returns-in_err-rest c = exits _ c.from_residual-in_err-rest.ensures.1 (search (by-plan fsinfo-plan, attr-asks, c.in_ok-obj_attributes.ensures, c.in_ok-rt.ensures, c.in_ok-wt.ensures, c.in_err-rest.ensures) depth 20)

pub returns : goal.returns
unfolding fsinfo
returns c = search (by-plan fsinfo-plan, attr-asks, c.in_ok-obj_attributes.ensures, c.in_ok-rt.ensures, c.in_ok-wt.ensures, c.in_ok-rest.ensures) depth 20
