use Rattle.std.proofs.Common.{rules, ◌∙◌}
use Rattle.xdr.specs.Laws.Answers.{tries, exit}
use Rattle.mount.specs.Laws.Export.{entries-start, entries-refused, entries-end, entries-on, entry-room, entries-less, entries-further, entries_fit}
use Rattle.mount.proofs.export.walk.Goals as goal

ruleset entries = (rules, tries, entries-start, entries-refused, entries-end, entries-on, entry-room, entries-less, entries-further, entries_fit)

pub loop-step-init : goal.loop-step-init
loop-step-init c = (search entries, search entries)

pub returns-in_err-step : goal.returns-in_err-step
returns-in_err-step c = exit c.from_residual.ensures.1 ∙ search entries

pub returns-in_default : goal.returns-in_default
returns-in_default c = search entries

pub or_long-long-requires : goal.or_long-long-requires
or_long-long-requires c = search entries

pub overflow_add-count : goal.overflow_add-count
overflow_add-count c = search entries

pub loop-step-smaller : goal.loop-step-smaller
loop-step-smaller c = search entries

pub loop-step-preserved : goal.loop-step-preserved
loop-step-preserved c = (search entries, search entries)
