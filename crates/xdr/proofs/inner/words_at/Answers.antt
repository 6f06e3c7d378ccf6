use borrow.Author.Rules.{rules}
use Rattle.xdr.specs.Laws.Answers.{words-refused}
use Rattle.xdr.specs.Laws.ByNumber.{passed, by_next, by-words-room, by-words-short}
use Rattle.xdr.proofs.Words.{by-words}
use Rattle.xdr.specs.Laws.Answers.{tries, exit}
use Rattle.xdr.proofs.inner.words_at.Goals as goal

pub returns-in_err-count : goal.returns-in_err-count
returns-in_err-count c = search (passed words-refused, by_next, by-words-room, by-words-short, by-words, rules, tries, exit c.from_residual.ensures.1)

pub overflow_sub-src : goal.overflow_sub-src
overflow_sub-src c = search (passed words-refused, by_next, by-words-room, by-words-short, by-words, rules, tries)

pub cut_short-requires : goal.cut_short-requires
cut_short-requires c = search (passed words-refused, by_next, by-words-room, by-words-short, by-words, rules, tries)

pub returns-then-src-p : goal.returns-then-src-p
returns-then-src-p c = search (passed words-refused, by_next, by-words-room, by-words-short, by-words, rules, tries)

pub returns : goal.returns
returns c = search (passed words-refused, by_next, by-words-room, by-words-short, by-words, rules, tries)
