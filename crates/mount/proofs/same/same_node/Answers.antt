use Rattle.std.proofs.Common.{rules}
use Rattle.mount.specs.Laws.Same.{dir-inside, groups-inside, dirs-differ, groups-tell}
use Rattle.mount.proofs.same.same_node.Goals as goal

pub same_bytes-requires-clause-p_value : goal.same_bytes-requires-clause-p_value
same_bytes-requires-clause-p_value c = search (rules, dir-inside)

pub same_bytes-requires-clause-q_value : goal.same_bytes-requires-clause-q_value
same_bytes-requires-clause-q_value c = search (rules, dir-inside)

pub returns-then-not-same_bytes : goal.returns-then-not-same_bytes
returns-then-not-same_bytes c = search (rules, dirs-differ)

pub same_groups-requires-clause-x_value : goal.same_groups-requires-clause-x_value
same_groups-requires-clause-x_value c = search (rules, groups-inside)

pub same_groups-requires-clause-y_value : goal.same_groups-requires-clause-y_value
same_groups-requires-clause-y_value c = search (rules, groups-inside)

pub returns : goal.returns
returns c = search (rules, groups-tell)
