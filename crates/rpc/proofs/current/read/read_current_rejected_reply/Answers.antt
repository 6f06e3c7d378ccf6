use Rattle.xdr.specs.Laws.Plans.{reads}
use Rattle.xdr.specs.Laws.Answers.{tries, exit}
use Rattle.rpc.proofs.current.read.read_current_rejected_reply.Goals as goal

pub returns-in_err-open_at : goal.returns-in_err-open_at
returns-in_err-open_at c = search (reads, tries, exit c.from_residual.ensures.1)

pub returns : goal.returns
returns c = search (reads, tries)
