use borrow.Author.Rules.{rules}
use Rattle.rpc.specs.Laws.Plans.{inner}
use Rattle.xdr.specs.Laws.Answers.{tries, exit}
use Rattle.rpc.proofs.inner.accepted_reply_at.Goals as goal

pub returns-in_err-verf : goal.returns-in_err-verf
returns-in_err-verf c = search (inner, rules, tries, exit c.from_residual.ensures.1) depth 20

pub returns-in_err-reply_data : goal.returns-in_err-reply_data
returns-in_err-reply_data c = search (inner, rules, tries, exit c.from_residual-in_err-reply_data.ensures.1) depth 20

pub returns : goal.returns
returns c = search (inner, rules, tries) depth 20
