use borrow.Author.Rules.{rules}
use Rattle.rpc.specs.Laws.Plans.{inner}
use Rattle.xdr.specs.Laws.Answers.{tries, exit}
use Rattle.rpc.proofs.inner.rpc_msg_at.Goals as goal

pub returns-in_err-xid : goal.returns-in_err-xid
returns-in_err-xid c = search (inner, rules, tries, exit c.from_residual.ensures.1) depth 20

pub returns-in_err-body : goal.returns-in_err-body
returns-in_err-body c = search (inner, rules, tries, exit c.from_residual-in_err-body.ensures.1) depth 20

pub returns : goal.returns
returns c = search (inner, rules, tries) depth 20
