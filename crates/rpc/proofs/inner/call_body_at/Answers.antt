use borrow.Author.Rules.{rules}
use Rattle.rpc.specs.Laws.Plans.{inner}
use Rattle.xdr.specs.Laws.Answers.{tries, exit}
use Rattle.rpc.proofs.inner.call_body_at.Goals as goal

pub returns-in_err-rpcvers_and_prog : goal.returns-in_err-rpcvers_and_prog
returns-in_err-rpcvers_and_prog c = search (inner, rules, tries, exit c.from_residual.ensures.1) depth 20

pub returns-in_err-vers_and_proc : goal.returns-in_err-vers_and_proc
returns-in_err-vers_and_proc c = search (inner, rules, tries, exit c.from_residual-in_err-vers_and_proc.ensures.1) depth 20

pub returns-in_err-cred : goal.returns-in_err-cred
returns-in_err-cred c = search (inner, rules, tries, exit c.from_residual-in_err-cred.ensures.1) depth 20

pub returns-in_err-verf : goal.returns-in_err-verf
returns-in_err-verf c = search (inner, rules, tries, exit c.from_residual-in_err-verf.ensures.1) depth 20

pub returns : goal.returns
returns c = search (inner, rules, tries) depth 20
