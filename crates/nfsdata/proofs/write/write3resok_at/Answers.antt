-- made by tools/generate from crates/nfsdata/rfc/write.x
use Rattle.xdr.specs.Laws.Plans.{asks}
use Rattle.xdr.specs.Laws.Records.{by-plan}
use Rattle.xdr.specs.Laws.Answers.{exits}
use Rattle.nfsdata.specs.Laws.Write.{write-resok-plan}
use Rattle.nfsdata.specs.Meaning.Write.{write_resok}
use Rattle.nfsdata.proofs.write.write3resok_at.Goals as goal

pub returns-in_err-file_wcc : goal.returns-in_err-file_wcc
unfolding write_resok
returns-in_err-file_wcc c = exits _ c.from_residual.ensures.1 (search (by-plan write-resok-plan, asks, c.in_err-file_wcc.ensures) depth 20)

pub returns-in_err-count : goal.returns-in_err-count
unfolding write_resok
returns-in_err-count c = exits _ c.from_residual-in_err-count.ensures.1 (search (by-plan write-resok-plan, asks, c.in_ok-file_wcc.ensures, c.in_err-count.ensures) depth 20)

pub returns-in_err-committed : goal.returns-in_err-committed
unfolding write_resok
returns-in_err-committed c = exits _ c.from_residual-in_err-committed.ensures.1 (search (by-plan write-resok-plan, asks, c.in_ok-file_wcc.ensures, c.in_ok-count.ensures, c.in_err-committed.ensures) depth 20)

pub returns-in_err-verf : goal.returns-in_err-verf
unfolding write_resok
returns-in_err-verf c = exits _ c.from_residual-in_err-verf.ensures.1 (search (by-plan write-resok-plan, asks, c.in_ok-file_wcc.ensures, c.in_ok-count.ensures, c.in_ok-committed.ensures, c.in_err-verf.ensures) depth 20)

pub returns : goal.returns
unfolding write_resok
returns c = search (by-plan write-resok-plan, asks, c.in_ok-file_wcc.ensures, c.in_ok-count.ensures, c.in_ok-committed.ensures, c.in_ok-verf.ensures) depth 20
