use borrow.Author.Rules.{rules}
use Rattle.rpc.specs.Laws.Current.{inner}
use Rattle.xdr.specs.Laws.Answers.{tries, exit, exits}
use Rattle.rpc.proofs.current.inner.rpc_body_at.Goals as goal

pub returns-in_err-tag : goal.returns-in_err-tag
returns-in_err-tag c = search (inner, rules, tries, exit c.from_residual.ensures.1) depth 20

pub returns-in_err-c-in-0 : goal.returns-in_err-c-in-0
returns-in_err-c-in-0 c = exits _ c.from_residual-in_err-c-in-0.ensures.1 (search (inner, rules, tries, c.in_err-c-in-0.ensures) depth 20)

pub returns-in_err-r-in-1 : goal.returns-in_err-r-in-1
returns-in_err-r-in-1 c = exits _ c.from_residual-in_err-r-in-1.ensures.1 (search (inner, rules, tries, c.in_err-r-in-1.ensures) depth 20)

pub returns-in_ok-c-in-0 : goal.returns-in_ok-c-in-0
returns-in_ok-c-in-0 c = search (inner, rules, tries, c.in_ok-c-in-0.ensures) depth 20

pub returns-in_ok-r-in-1 : goal.returns-in_ok-r-in-1
returns-in_ok-r-in-1 c = search (inner, rules, tries, c.in_ok-r-in-1.ensures) depth 20

pub returns-in_default : goal.returns-in_default
returns-in_default c = search (inner, rules, tries) depth 20
