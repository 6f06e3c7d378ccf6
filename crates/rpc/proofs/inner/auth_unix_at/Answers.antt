use borrow.Author.Rules.{rules}
use Rattle.rpc.specs.Laws.Plans.{inner}
use Rattle.xdr.specs.Laws.Answers.{tries, exit}
use Rattle.rpc.proofs.inner.auth_unix_at.Goals as goal

pub returns-in_err-stamp : goal.returns-in_err-stamp
returns-in_err-stamp c = search (inner, rules, tries, exit c.from_residual.ensures.1) depth 20

pub returns-in_err-machinename : goal.returns-in_err-machinename
returns-in_err-machinename c = search (inner, rules, tries, exit c.from_residual-in_err-machinename.ensures.1) depth 20

pub returns-in_err-uid_and_gid : goal.returns-in_err-uid_and_gid
returns-in_err-uid_and_gid c = search (inner, rules, tries, exit c.from_residual-in_err-uid_and_gid.ensures.1) depth 20

pub returns-in_err-gids : goal.returns-in_err-gids
returns-in_err-gids c = search (inner, rules, tries, exit c.from_residual-in_err-gids.ensures.1) depth 20

pub returns : goal.returns
returns c = search (inner, rules, tries) depth 20
