use borrow.Author.Rules.{rules}
use Rattle.xdr.specs.Laws.Answers.{tries, exits}
use Rattle.mount.specs.Laws.Group.{names-lost, names-none, names-first, names-one}
use Rattle.mount.proofs.group.groups_at.Goals as goal

ruleset names = (rules, tries, names-lost, names-none, names-first, names-one)

pub returns-in_err-step : goal.returns-in_err-step
returns-in_err-step c = exits _ c.from_residual.ensures.1 (search names)

pub returns-in_default : goal.returns-in_default
returns-in_default c = search names

pub names_behind-requires-clause-at_value : goal.names_behind-requires-clause-at_value
names_behind-requires-clause-at_value c = search names

pub names_behind-requires-clause-at_bound : goal.names_behind-requires-clause-at_bound
names_behind-requires-clause-at_bound c = search names
