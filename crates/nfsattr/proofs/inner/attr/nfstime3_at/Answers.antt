use Rattle.xdr.specs.Laws.Records.{by-plan}
use Rattle.nfsattr.specs.Meaning.Attr.{nfstime}
use Rattle.nfsattr.specs.Laws.Plans.{nfstime-plan, attr-asks}
use Rattle.xdr.specs.Laws.Answers.{exits}
use Rattle.nfsattr.proofs.inner.attr.nfstime3_at.Goals as goal

pub returns-in_err-seconds_and_nseconds : goal.returns-in_err-seconds_and_nseconds
unfolding nfstime
returns-in_err-seconds_and_nseconds c = exits _ c.from_residual.ensures.1 (search (by-plan nfstime-plan, attr-asks, c.in_err-seconds_and_nseconds.ensures) depth 20)

pub returns : goal.returns
unfolding nfstime
returns c = search (by-plan nfstime-plan, attr-asks, c.in_ok-seconds_and_nseconds.ensures) depth 20
