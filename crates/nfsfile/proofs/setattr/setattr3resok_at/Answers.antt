-- made by tools/generate from crates/nfsfile/rfc/setattr.x
use Rattle.xdr.specs.Laws.Plans.{asks}
use Rattle.xdr.specs.Laws.Records.{by-plan}
use Rattle.xdr.specs.Laws.Answers.{exits}
use Rattle.nfsfile.specs.Laws.Setattr.{setattr-resok-plan}
use Rattle.nfsfile.specs.Meaning.Setattr.{setattr_resok}
use Rattle.nfsfile.proofs.setattr.setattr3resok_at.Goals as goal

pub returns-in_err-obj_wcc : goal.returns-in_err-obj_wcc
unfolding setattr_resok
returns-in_err-obj_wcc c = exits _ c.from_residual.ensures.1 (search (by-plan setattr-resok-plan, asks, c.in_err-obj_wcc.ensures) depth 20)

pub returns : goal.returns
unfolding setattr_resok
returns c = search (by-plan setattr-resok-plan, asks, c.in_ok-obj_wcc.ensures) depth 20
