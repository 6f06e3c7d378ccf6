use Rattle.std.proofs.Common.{rules}
use Rattle.mount.specs.Laws.Same.{left-too-long, right-too-long, is-outside, is-long, left-held, right-held, is_compared}
use Rattle.mount.proofs.same.same_exports.Goals as goal

ruleset compared = (rules, left-too-long, right-too-long, is-outside, is-long, left-held, right-held, is_compared)

pub returns-then-a-gt-MOST : goal.returns-then-a-gt-MOST
returns-then-a-gt-MOST c = search compared

pub returns-then-b-gt-MOST : goal.returns-then-b-gt-MOST
returns-then-b-gt-MOST c = search compared

pub returns-in-Outside : goal.returns-in-Outside
returns-in-Outside c = search compared

pub returns-in-Long : goal.returns-in-Long
returns-in-Long c = search compared

pub same_nodes-requires-clause-x_value : goal.same_nodes-requires-clause-x_value
same_nodes-requires-clause-x_value c = search compared

pub same_nodes-requires-clause-y_value : goal.same_nodes-requires-clause-y_value
same_nodes-requires-clause-y_value c = search compared

pub returns-in-Within : goal.returns-in-Within
returns-in-Within c = search compared
