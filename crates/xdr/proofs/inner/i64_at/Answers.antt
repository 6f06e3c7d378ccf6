use borrow.Author.Rules.{rules}
use Rattle.xdr.specs.Laws.Answers.{long-refused}
use Rattle.xdr.specs.Laws.ByNumber.{passed, by-long}
use Rattle.xdr.specs.Laws.Answers.{tries, exit}
use Rattle.xdr.proofs.inner.i64_at.Goals as goal

pub returns-in_err-hyper : goal.returns-in_err-hyper
returns-in_err-hyper c = search (passed long-refused, by-long, rules, tries, exit c.from_residual.ensures.1)

pub returns : goal.returns
returns c = search (passed long-refused, by-long, rules, tries)
