use borrow.Author.Rules.{rules}
use Rattle.rpc.specs.Laws.Current.{inner}
use Rattle.xdr.specs.Laws.Answers.{tries, exit}
use Rattle.rpc.proofs.current.inner.auth_stat_at.Goals as goal

pub returns-in_err-v : goal.returns-in_err-v
returns-in_err-v c = search (inner, rules, tries, exit c.from_residual.ensures.1) depth 20

pub returns-in_default : goal.returns-in_default
returns-in_default c = search (inner, rules, tries) depth 20

pub returns-in-0 : goal.returns-in-0
returns-in-0 c = search (inner, rules, tries) depth 20

pub returns-in-1 : goal.returns-in-1
returns-in-1 c = search (inner, rules, tries) depth 20

pub returns-in-2 : goal.returns-in-2
returns-in-2 c = search (inner, rules, tries) depth 20

pub returns-in-3 : goal.returns-in-3
returns-in-3 c = search (inner, rules, tries) depth 20

pub returns-in-4 : goal.returns-in-4
returns-in-4 c = search (inner, rules, tries) depth 20

pub returns-in-5 : goal.returns-in-5
returns-in-5 c = search (inner, rules, tries) depth 20

pub returns-in-6 : goal.returns-in-6
returns-in-6 c = search (inner, rules, tries) depth 20

pub returns-in-7 : goal.returns-in-7
returns-in-7 c = search (inner, rules, tries) depth 20

pub returns-in-8 : goal.returns-in-8
returns-in-8 c = search (inner, rules, tries) depth 20

pub returns-in-9 : goal.returns-in-9
returns-in-9 c = search (inner, rules, tries) depth 20

pub returns-in-10 : goal.returns-in-10
returns-in-10 c = search (inner, rules, tries) depth 20

pub returns-in-11 : goal.returns-in-11
returns-in-11 c = search (inner, rules, tries) depth 20

pub returns-in-12 : goal.returns-in-12
returns-in-12 c = search (inner, rules, tries) depth 20

pub returns-in-13 : goal.returns-in-13
returns-in-13 c = search (inner, rules, tries) depth 20

pub returns-in-14 : goal.returns-in-14
returns-in-14 c = search (inner, rules, tries) depth 20
