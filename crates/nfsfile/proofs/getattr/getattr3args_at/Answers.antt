-- made by tools/generate from crates/nfsfile/rfc/getattr.x
use Rattle.xdr.specs.Laws.Plans.{planned, asks}
use Rattle.xdr.specs.Laws.Answers.{exits}
use Rattle.nfsfile.specs.Laws.Getattr.{getattr-args-plan}
use Rattle.nfsfile.specs.Meaning.Getattr.{getattr_args}
use Rattle.nfsfile.proofs.getattr.getattr3args_at.Goals as goal

pub returns-in_err-object : goal.returns-in_err-object
unfolding getattr_args
returns-in_err-object c = exits _ c.from_residual.ensures.1 (search (planned getattr-args-plan, asks, c.in_err-object.ensures) depth 20)

pub returns : goal.returns
unfolding getattr_args
returns c = search (planned getattr-args-plan, asks, c.in_ok-object.ensures) depth 20
