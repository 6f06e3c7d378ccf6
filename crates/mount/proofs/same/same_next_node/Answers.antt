use Rattle.std.proofs.Common.{rules}
use Rattle.mount.specs.Laws.Export.{node_steps}
use Rattle.mount.specs.Laws.Pairs.{found_inside, found-ends, found-end, found-more, found-both}
use Rattle.mount.proofs.same.same_next_node.Goals as goal

pub same_node-requires-clause-x_value : goal.same_node-requires-clause-x_value
same_node-requires-clause-x_value c = search (rules, found_inside node_steps)

pub same_node-requires-clause-y_value : goal.same_node-requires-clause-y_value
same_node-requires-clause-y_value c = search (rules, found_inside node_steps)

pub returns-in-Some-Some : goal.returns-in-Some-Some
returns-in-Some-Some c = search (rules, found-both node_steps)

pub returns-in-Some-None : goal.returns-in-Some-None
returns-in-Some-None c = search (rules, found-more node_steps)

pub returns-in-None-Some : goal.returns-in-None-Some
returns-in-None-Some c = search (rules, found-end node_steps)

pub returns-in-None-None : goal.returns-in-None-None
returns-in-None-None c = search (rules, found-ends node_steps)
