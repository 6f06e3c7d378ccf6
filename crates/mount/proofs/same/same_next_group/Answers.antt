use Rattle.std.proofs.Common.{rules}
use Rattle.mount.specs.Laws.Group.{group_steps}
use Rattle.mount.specs.Laws.Pairs.{found_inside, found-ends, found-end, found-more, found-both}
use Rattle.mount.proofs.same.same_next_group.Goals as goal

pub same_bytes-requires-clause-p_value : goal.same_bytes-requires-clause-p_value
same_bytes-requires-clause-p_value c = search (rules, found_inside group_steps)

pub same_bytes-requires-clause-q_value : goal.same_bytes-requires-clause-q_value
same_bytes-requires-clause-q_value c = search (rules, found_inside group_steps)

pub returns-in-Some-Some : goal.returns-in-Some-Some
returns-in-Some-Some c = search (rules, found-both group_steps)

pub returns-in-Some-None : goal.returns-in-Some-None
returns-in-Some-None c = search (rules, found-more group_steps)

pub returns-in-None-Some : goal.returns-in-None-Some
returns-in-None-Some c = search (rules, found-end group_steps)

pub returns-in-None-None : goal.returns-in-None-None
returns-in-None-None c = search (rules, found-ends group_steps)
