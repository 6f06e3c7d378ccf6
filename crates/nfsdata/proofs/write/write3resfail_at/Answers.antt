-- made by tools/generate from crates/nfsdata/rfc/write.x
use Rattle.xdr.specs.Laws.Plans.{asks}
use Rattle.xdr.specs.Laws.Records.{by-plan}
use Rattle.xdr.specs.Laws.Answers.{exits}
use Rattle.nfsdata.specs.Laws.Write.{write-resfail-plan}
use Rattle.nfsdata.specs.Meaning.Write.{write_resfail}
use Rattle.nfsdata.proofs.write.write3resfail_at.Goals as goal

pub returns-in_err-file_wcc : goal.returns-in_err-file_wcc
unfolding write_resfail
returns-in_err-file_wcc c = exits _ c.from_residual.ensures.1 (search (by-plan write-resfail-plan, asks, c.in_err-file_wcc.ensures) depth 20)

pub returns : goal.returns
unfolding write_resfail
returns c = search (by-plan write-resfail-plan, asks, c.in_ok-file_wcc.ensures) depth 20
