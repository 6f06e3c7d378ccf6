-- made by tools/generate from crates/nfsdata/rfc/write.x
use Rattle.xdr.specs.Laws.Plans.{planned, asks}
use Rattle.xdr.specs.Laws.Answers.{exits}
use Rattle.nfsdata.specs.Laws.Write.{write-args-plan}
use Rattle.nfsdata.specs.Meaning.Write.{write_args}
use Rattle.nfsdata.proofs.write.write3args_at.Goals as goal

pub returns-in_err-file : goal.returns-in_err-file
unfolding write_args
returns-in_err-file c = exits _ c.from_residual.ensures.1 (search (planned write-args-plan, asks, c.in_err-file.ensures) depth 20)

pub returns-in_err-offset : goal.returns-in_err-offset
unfolding write_args
returns-in_err-offset c = exits _ c.from_residual-in_err-offset.ensures.1 (search (planned write-args-plan, asks, c.in_ok-file.ensures, c.in_err-offset.ensures) depth 20)

pub returns-in_err-count : goal.returns-in_err-count
unfolding write_args
returns-in_err-count c = exits _ c.from_residual-in_err-count.ensures.1 (search (planned write-args-plan, asks, c.in_ok-file.ensures, c.in_ok-offset.ensures, c.in_err-count.ensures) depth 20)

pub returns-in_err-stable : goal.returns-in_err-stable
unfolding write_args
returns-in_err-stable c = exits _ c.from_residual-in_err-stable.ensures.1 (search (planned write-args-plan, asks, c.in_ok-file.ensures, c.in_ok-offset.ensures, c.in_ok-count.ensures, c.in_err-stable.ensures) depth 20)

pub returns-in_err-data : goal.returns-in_err-data
unfolding write_args
returns-in_err-data c = exits _ c.from_residual-in_err-data.ensures.1 (search (planned write-args-plan, asks, c.in_ok-file.ensures, c.in_ok-offset.ensures, c.in_ok-count.ensures, c.in_ok-stable.ensures, c.in_err-data.ensures) depth 20)

pub returns : goal.returns
unfolding write_args
returns c = search (planned write-args-plan, asks, c.in_ok-file.ensures, c.in_ok-offset.ensures, c.in_ok-count.ensures, c.in_ok-stable.ensures, c.in_ok-data.ensures) depth 20
