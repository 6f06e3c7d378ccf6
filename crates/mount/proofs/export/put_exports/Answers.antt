use Rattle.std.proofs.Common.{rules}
use Rattle.mount.specs.Laws.Export.{node_steps}
use Rattle.mount.specs.Laws.Next.{lay-start, lay-refused, lay-less, lay-ahead, lay-place, lay-short, lay-end, lay-on}
use Rattle.mount.proofs.export.put_exports.Goals as goal

pub loop-step-init : goal.loop-step-init
loop-step-init c = (search (rules, lay-start node_steps), search rules, search rules)

pub returns-in_default : goal.returns-in_default
returns-in_default c = search (rules, lay-refused node_steps)

pub overflow_sub-step : goal.overflow_sub-step
overflow_sub-step c = search (rules, lay-ahead node_steps)

pub returns-then-out-step : goal.returns-then-out-step
returns-then-out-step c = search (rules, lay-short node_steps)

pub slice_bounds-put_next_node-count : goal.slice_bounds-put_next_node-count
slice_bounds-put_next_node-count c = search (rules, lay-place node_steps)

pub slice_bounds-put_next_node-start : goal.slice_bounds-put_next_node-start
slice_bounds-put_next_node-start c = search (rules, lay-place node_steps)

pub returns-in_default-value : goal.returns-in_default-value
returns-in_default-value c = search (rules, lay-end node_steps)

pub loop-step-smaller : goal.loop-step-smaller
loop-step-smaller c = search (rules, lay-less node_steps)

pub loop-step-preserved : goal.loop-step-preserved
loop-step-preserved c = (search (rules, lay-on node_steps), search (rules, lay-ahead node_steps), search rules)
