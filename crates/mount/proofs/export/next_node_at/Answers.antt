use Rattle.xdr.specs.Laws.Plans.{planned, asks}
use Rattle.xdr.specs.Laws.Answers.{exits}
use Rattle.mount.specs.Meaning.Export.{next_node}
use Rattle.mount.specs.Laws.Export.{next-node-plan}
use Rattle.mount.proofs.export.next_node_at.Goals as goal

pub returns-in_err-more : goal.returns-in_err-more
unfolding next_node
returns-in_err-more c = exits _ c.from_residual.ensures.1 (search (planned next-node-plan, asks, c.in_err-more.ensures) depth 20)

pub returns-then-not-more : goal.returns-then-not-more
unfolding next_node
returns-then-not-more c = search (planned next-node-plan, asks, c.in_ok-more.ensures) depth 20

pub returns-in_err-entry : goal.returns-in_err-entry
unfolding next_node
returns-in_err-entry c = exits _ c.from_residual-in_err-entry.ensures.1 (search (planned next-node-plan, asks, c.in_ok-more.ensures, c.in_err-entry.ensures) depth 20)

pub returns : goal.returns
unfolding next_node
returns c = search (planned next-node-plan, asks, c.in_ok-more.ensures, c.in_ok-entry.ensures) depth 20
