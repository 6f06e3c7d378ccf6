-- made by tools/generate from crates/nfsdata/rfc/read.x
use Rattle.xdr.specs.Laws.Plans.{planned, asks}
use Rattle.xdr.specs.Laws.Answers.{exits}
use Rattle.nfsdata.specs.Laws.Read.{read-args-plan}
use Rattle.nfsdata.specs.Meaning.Read.{read_args}
use Rattle.nfsdata.proofs.read.read3args_at.Goals as goal

pub returns-in_err-file : goal.returns-in_err-file
unfolding read_args
returns-in_err-file c = exits _ c.from_residual.ensures.1 (search (planned read-args-plan, asks, c.in_err-file.ensures) depth 20)

pub returns-in_err-offset : goal.returns-in_err-offset
unfolding read_args
returns-in_err-offset c = exits _ c.from_residual-in_err-offset.ensures.1 (search (planned read-args-plan, asks, c.in_ok-file.ensures, c.in_err-offset.ensures) depth 20)

pub returns-in_err-count : goal.returns-in_err-count
unfolding read_args
returns-in_err-count c = exits _ c.from_residual-in_err-count.ensures.1 (search (planned read-args-plan, asks, c.in_ok-file.ensures, c.in_ok-offset.ensures, c.in_err-count.ensures) depth 20)

pub returns : goal.returns
unfolding read_args
returns c = search (planned read-args-plan, asks, c.in_ok-file.ensures, c.in_ok-offset.ensures, c.in_ok-count.ensures) depth 20
