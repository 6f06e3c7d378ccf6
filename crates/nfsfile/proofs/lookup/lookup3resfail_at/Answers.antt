-- made by tools/generate from crates/nfsfile/rfc/lookup.x
use Rattle.xdr.specs.Laws.Plans.{asks}
use Rattle.xdr.specs.Laws.Records.{by-plan}
use Rattle.xdr.specs.Laws.Answers.{exits}
use Rattle.nfsfile.specs.Laws.Lookup.{lookup-resfail-plan}
use Rattle.nfsfile.specs.Meaning.Lookup.{lookup_resfail}
use Rattle.nfsfile.proofs.lookup.lookup3resfail_at.Goals as goal

pub returns-in_err-dir_attributes : goal.returns-in_err-dir_attributes
unfolding lookup_resfail
returns-in_err-dir_attributes c = exits _ c.from_residual.ensures.1 (search (by-plan lookup-resfail-plan, asks, c.in_err-dir_attributes.ensures) depth 20)

pub returns : goal.returns
unfolding lookup_resfail
returns c = search (by-plan lookup-resfail-plan, asks, c.in_ok-dir_attributes.ensures) depth 20
