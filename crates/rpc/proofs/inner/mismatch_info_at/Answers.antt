use borrow.Author.Rules.{rules}
use Rattle.rpc.specs.Laws.Plans.{inner}
use Rattle.xdr.specs.Laws.Answers.{tries, exit}
use Rattle.rpc.proofs.inner.mismatch_info_at.Goals as goal

pub returns-in_err-low_and_high : goal.returns-in_err-low_and_high
returns-in_err-low_and_high c = search (inner, rules, tries, exit c.from_residual.ensures.1) depth 20

pub returns : goal.returns
returns c = search (inner, rules, tries) depth 20
