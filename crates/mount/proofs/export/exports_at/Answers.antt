use borrow.Author.Rules.{rules}
use Rattle.xdr.specs.Laws.Answers.{tries, exits}
use Rattle.mount.specs.Laws.Export.{said-refused, said-within, said-over}
use Rattle.mount.proofs.export.exports_at.Goals as goal

pub returns-in_err-list : goal.returns-in_err-list
returns-in_err-list c = exits _ c.from_residual.ensures.1 (search (rules, tries, said-refused))

pub returns-in-Within : goal.returns-in-Within
returns-in-Within c = search (rules, tries, said-within)

pub returns-in-Over : goal.returns-in-Over
returns-in-Over c = search (rules, tries, said-over)
