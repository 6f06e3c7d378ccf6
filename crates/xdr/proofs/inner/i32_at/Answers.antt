use borrow.Author.Rules.{rules}
use Rattle.xdr.specs.Laws.Answers.{int-refused}
use Rattle.xdr.specs.Laws.ByNumber.{passed, by_int}
use Rattle.xdr.specs.Laws.Answers.{tries, exit}
use Rattle.xdr.proofs.inner.i32_at.Goals as goal

pub returns-in_err-word : goal.returns-in_err-word
returns-in_err-word c = search (passed int-refused, by_int, rules, tries, exit c.from_residual.ensures.1)

pub returns : goal.returns
returns c = search (passed int-refused, by_int, rules, tries)
