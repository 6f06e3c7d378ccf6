use Rattle.std.proofs.Common.{rules}
use Rattle.mount.specs.Laws.Export.{node_steps}
use Rattle.mount.specs.Laws.Next.{step-within, step_less}
use Rattle.mount.specs.Laws.Pairs.{walk-starts, step_left, step_right, walk-differs, walk_ends, walk-on}
use Rattle.mount.proofs.same.same_nodes.Goals as goal

pub loop-s-init : goal.loop-s-init
loop-s-init c = search (rules, walk-starts node_steps)

pub returns-in_default : goal.returns-in_default
returns-in_default c = search (rules, step_left node_steps)

pub returns-in_default-next_node_at : goal.returns-in_default-next_node_at
returns-in_default-next_node_at c = search (rules, step_right node_steps)

pub same_next_node-requires-clause-u_value : goal.same_next_node-requires-clause-u_value
same_next_node-requires-clause-u_value c = search (rules, step-within node_steps)

pub same_next_node-requires-clause-v_value : goal.same_next_node-requires-clause-v_value
same_next_node-requires-clause-v_value c = search (rules, step-within node_steps)

pub returns-then-not-same_next_node : goal.returns-then-not-same_next_node
returns-then-not-same_next_node c = search (rules, walk-differs node_steps)

pub returns-in_default-value : goal.returns-in_default-value
returns-in_default-value c = search (rules, walk_ends node_steps)

pub loop-s-smaller : goal.loop-s-smaller
loop-s-smaller c = search (rules, step_less node_steps)

pub loop-s-preserved : goal.loop-s-preserved
loop-s-preserved c = search (rules, walk-on node_steps)
