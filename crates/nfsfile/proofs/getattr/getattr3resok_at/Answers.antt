-- made by tools/generate from crates/nfsfile/rfc/getattr.x
use Rattle.xdr.specs.Laws.Plans.{asks}
use Rattle.xdr.specs.Laws.Records.{by-plan}
use Rattle.xdr.specs.Laws.Answers.{exits}
use Rattle.nfsfile.specs.Laws.Getattr.{getattr-resok-plan}
use Rattle.nfsfile.specs.Meaning.Getattr.{getattr_resok}
use Rattle.nfsfile.proofs.getattr.getattr3resok_at.Goals as goal

pub returns-in_err-obj_attributes : goal.returns-in_err-obj_attributes
unfolding getattr_resok
returns-in_err-obj_attributes c = exits _ c.from_residual.ensures.1 (search (by-plan getattr-resok-plan, asks, c.in_err-obj_attributes.ensures) depth 20)

pub returns : goal.returns
unfolding getattr_resok
returns c = search (by-plan getattr-resok-plan, asks, c.in_ok-obj_attributes.ensures) depth 20
