-- made by tools/generate from crates/nfsdata/rfc/read.x
use Rattle.xdr.specs.Laws.Plans.{planned, asks}
use Rattle.xdr.specs.Laws.Answers.{exits}
use Rattle.nfsdata.specs.Laws.Read.{read-resok-plan}
use Rattle.nfsdata.specs.Meaning.Read.{read_resok}
use Rattle.nfsdata.proofs.read.read3resok_at.Goals as goal

pub returns-in_err-file_attributes : goal.returns-in_err-file_attributes
unfolding read_resok
returns-in_err-file_attributes c = exits _ c.from_residual.ensures.1 (search (planned read-resok-plan, asks, c.in_err-file_attributes.ensures) depth 20)

pub returns-in_err-count : goal.returns-in_err-count
unfolding read_resok
returns-in_err-count c = exits _ c.from_residual-in_err-count.ensures.1 (search (planned read-resok-plan, asks, c.in_ok-file_attributes.ensures, c.in_err-count.ensures) depth 20)

pub returns-in_err-eof : goal.returns-in_err-eof
unfolding read_resok
returns-in_err-eof c = exits _ c.from_residual-in_err-eof.ensures.1 (search (planned read-resok-plan, asks, c.in_ok-file_attributes.ensures, c.in_ok-count.ensures, c.in_err-eof.ensures) depth 20)

pub returns-in_err-data : goal.returns-in_err-data
unfolding read_resok
returns-in_err-data c = exits _ c.from_residual-in_err-data.ensures.1 (search (planned read-resok-plan, asks, c.in_ok-file_attributes.ensures, c.in_ok-count.ensures, c.in_ok-eof.ensures, c.in_err-data.ensures) depth 20)

pub returns : goal.returns
unfolding read_resok
returns c = search (planned read-resok-plan, asks, c.in_ok-file_attributes.ensures, c.in_ok-count.ensures, c.in_ok-eof.ensures, c.in_ok-data.ensures) depth 20
