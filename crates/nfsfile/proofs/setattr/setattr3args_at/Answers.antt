-- made by tools/generate from crates/nfsfile/rfc/setattr.x
use Rattle.xdr.specs.Laws.Plans.{planned, asks}
use Rattle.xdr.specs.Laws.Answers.{exits}
use Rattle.nfsfile.specs.Laws.Setattr.{setattr-args-plan}
use Rattle.nfsfile.specs.Meaning.Setattr.{setattr_args}
use Rattle.nfsfile.proofs.setattr.setattr3args_at.Goals as goal

pub returns-in_err-object : goal.returns-in_err-object
unfolding setattr_args
returns-in_err-object c = exits _ c.from_residual.ensures.1 (search (planned setattr-args-plan, asks, c.in_err-object.ensures) depth 20)

pub returns-in_err-new_attributes : goal.returns-in_err-new_attributes
unfolding setattr_args
returns-in_err-new_attributes c = exits _ c.from_residual-in_err-new_attributes.ensures.1 (search (planned setattr-args-plan, asks, c.in_ok-object.ensures, c.in_err-new_attributes.ensures) depth 20)

pub returns-in_err-guard : goal.returns-in_err-guard
unfolding setattr_args
returns-in_err-guard c = exits _ c.from_residual-in_err-guard.ensures.1 (search (planned setattr-args-plan, asks, c.in_ok-object.ensures, c.in_ok-new_attributes.ensures, c.in_err-guard.ensures) depth 20)

pub returns : goal.returns
unfolding setattr_args
returns c = search (planned setattr-args-plan, asks, c.in_ok-object.ensures, c.in_ok-new_attributes.ensures, c.in_ok-guard.ensures) depth 20
