-- made by tools/generate from crates/nfsfile/rfc/lookup.x
use Rattle.xdr.specs.Laws.Plans.{planned, asks}
use Rattle.xdr.specs.Laws.Answers.{exits}
use Rattle.nfsfile.specs.Laws.Lookup.{lookup-resok-plan}
use Rattle.nfsfile.specs.Meaning.Lookup.{lookup_resok}
use Rattle.nfsfile.proofs.lookup.lookup3resok_at.Goals as goal

pub returns-in_err-object : goal.returns-in_err-object
unfolding lookup_resok
returns-in_err-object c = exits _ c.from_residual.ensures.1 (search (planned lookup-resok-plan, asks, c.in_err-object.ensures) depth 20)

pub returns-in_err-obj_attributes : goal.returns-in_err-obj_attributes
unfolding lookup_resok
returns-in_err-obj_attributes c = exits _ c.from_residual-in_err-obj_attributes.ensures.1 (search (planned lookup-resok-plan, asks, c.in_ok-object.ensures, c.in_err-obj_attributes.ensures) depth 20)

pub returns-in_err-dir_attributes : goal.returns-in_err-dir_attributes
unfolding lookup_resok
returns-in_err-dir_attributes c = exits _ c.from_residual-in_err-dir_attributes.ensures.1 (search (planned lookup-resok-plan, asks, c.in_ok-object.ensures, c.in_ok-obj_attributes.ensures, c.in_err-dir_attributes.ensures) depth 20)

pub returns : goal.returns
unfolding lookup_resok
returns c = search (planned lookup-resok-plan, asks, c.in_ok-object.ensures, c.in_ok-obj_attributes.ensures, c.in_ok-dir_attributes.ensures) depth 20
