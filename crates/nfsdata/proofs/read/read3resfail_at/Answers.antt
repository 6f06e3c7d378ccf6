-- made by tools/generate from crates/nfsdata/rfc/read.x
use Rattle.xdr.specs.Laws.Plans.{asks}
use Rattle.xdr.specs.Laws.Records.{by-plan}
use Rattle.xdr.specs.Laws.Answers.{exits}
use Rattle.nfsdata.specs.Laws.Read.{read-resfail-plan}
use Rattle.nfsdata.specs.Meaning.Read.{read_resfail}
use Rattle.nfsdata.proofs.read.read3resfail_at.Goals as goal

pub returns-in_err-file_attributes : goal.returns-in_err-file_attributes
unfolding read_resfail
returns-in_err-file_attributes c = exits _ c.from_residual.ensures.1 (search (by-plan read-resfail-plan, asks, c.in_err-file_attributes.ensures) depth 20)

pub returns : goal.returns
unfolding read_resfail
returns c = search (by-plan read-resfail-plan, asks, c.in_ok-file_attributes.ensures) depth 20
