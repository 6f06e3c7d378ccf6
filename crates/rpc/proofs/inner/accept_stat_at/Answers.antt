use borrow.Author.Rules.{rules}
use Rattle.rpc.specs.Laws.Plans.{inner}
use Rattle.xdr.specs.Laws.Answers.{tries, exit}
use Rattle.rpc.proofs.inner.accept_stat_at.Goals as goal

pub returns-in_err-v : goal.returns-in_err-v
returns-in_err-v c = search (inner, rules, tries, exit c.from_residual.ensures.1) depth 20

pub returns-in_default : goal.returns-in_default
returns-in_default c = search (inner, rules, tries) depth 20

pub returns-in-0 : goal.returns-in-0
returns-in-0 c = search (inner, rules, tries) depth 20

pub returns-in-1 : goal.returns-in-1
returns-in-1 c = search (inner, rules, tries) depth 20

pub returns-in-2 : goal.returns-in-2
returns-in-2 c = search (inner, rules, tries) depth 20

pub returns-in-3 : goal.returns-in-3
returns-in-3 c = search (inner, rules, tries) depth 20

pub returns-in-4 : goal.returns-in-4
returns-in-4 c = search (inner, rules, tries) depth 20
