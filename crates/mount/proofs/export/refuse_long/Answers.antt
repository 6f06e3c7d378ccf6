use borrow.Author.Rules.{rules}
use Rattle.xdr.specs.Laws.Answers.{tries, exit}
use Rattle.mount.specs.Laws.Export.{over-off, over-on}
use Rattle.mount.proofs.export.refuse_long.Goals as goal

pub returns-in_err-place : goal.returns-in_err-place
returns-in_err-place c = search (rules, tries, over-off, exit c.from_residual.ensures.1)

pub returns : goal.returns
returns c = search (rules, tries, over-on)
