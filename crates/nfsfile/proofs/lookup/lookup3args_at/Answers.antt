-- made by tools/generate from crates/nfsfile/rfc/lookup.x
use Rattle.xdr.specs.Laws.Plans.{planned, asks}
use Rattle.xdr.specs.Laws.Answers.{exits}
use Rattle.nfsfile.specs.Laws.Lookup.{lookup-args-plan}
use Rattle.nfsfile.specs.Meaning.Lookup.{lookup_args}
use Rattle.nfsfile.proofs.lookup.lookup3args_at.Goals as goal

pub returns-in_err-what : goal.returns-in_err-what
unfolding lookup_args
returns-in_err-what c = exits _ c.from_residual.ensures.1 (search (planned lookup-args-plan, asks, c.in_err-what.ensures) depth 20)

pub returns : goal.returns
unfolding lookup_args
returns c = search (planned lookup-args-plan, asks, c.in_ok-what.ensures) depth 20
