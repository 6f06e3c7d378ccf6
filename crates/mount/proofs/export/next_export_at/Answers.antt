use borrow.Author.Rules.{rules}
use Rattle.xdr.specs.Laws.Answers.{tries, exits}
use Rattle.mount.specs.Laws.Export.{next-off, next-end, next-kept, next-over, next-room}
use Rattle.mount.proofs.export.next_export_at.Goals as goal

pub returns-in_err-step : goal.returns-in_err-step
returns-in_err-step c = exits _ c.from_residual.ensures.1 (search (rules, tries, next-off))

pub returns-in_default : goal.returns-in_default
returns-in_default c = search (rules, tries, next-end)

pub overflow_add-result : goal.overflow_add-result
overflow_add-result c = search (rules, tries, next-room)

pub returns-then-entry-gt-MNTPATHLEN : goal.returns-then-entry-gt-MNTPATHLEN
returns-then-entry-gt-MNTPATHLEN c = search (rules, tries, next-over)

pub returns : goal.returns
returns c = search (rules, tries, next-kept)
