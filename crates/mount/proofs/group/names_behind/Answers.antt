use Rattle.std.proofs.Common.{rules}
use Rattle.xdr.specs.Laws.Answers.{tries, exits}
use Rattle.mount.specs.Laws.Group.{names-refused, names-end, names-on, names-less, names-further, names-fit}
use Rattle.mount.proofs.group.names_behind.Goals as goal

ruleset names = (rules, tries, names-refused, names-end, names-on, names-less, names-further, names-fit)

pub returns-in_err-step : goal.returns-in_err-step
returns-in_err-step c = exits _ c.from_residual.ensures.1 (search names)

pub returns-in_default : goal.returns-in_default
returns-in_default c = search names

pub overflow_add-count : goal.overflow_add-count
overflow_add-count c = search names

pub loop-step-smaller : goal.loop-step-smaller
loop-step-smaller c = search names

pub loop-step-preserved : goal.loop-step-preserved
loop-step-preserved c = (search names, search names)
