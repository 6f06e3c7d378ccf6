use borrow.Author.Rules.{rules}
use Rattle.xdr.specs.Meaning.Formats.{words_held}
use Rattle.xdr.specs.Laws.Words.{words-good}
use Rattle.xdr.specs.Laws.Writers.{words-writer, write-off, write-place, write-in}
use Rattle.xdr.specs.Laws.Answers.{tries, exit}
use Rattle.xdr.proofs.write.write_words.Goals as goal

pub returns-in_err-end : goal.returns-in_err-end
unfolding words_held
returns-in_err-end c = search (write-off words-writer, write-place words-writer, write-in words-writer, words-good, rules, tries, exit c.from_residual.ensures.1)

pub slice_bounds-put_words-count : goal.slice_bounds-put_words-count
unfolding words_held
slice_bounds-put_words-count c = search (write-off words-writer, write-place words-writer, write-in words-writer, words-good, rules, tries, c.in_ok-end.was)

pub slice_bounds-put_words-start : goal.slice_bounds-put_words-start
unfolding words_held
slice_bounds-put_words-start c = search (write-off words-writer, write-place words-writer, write-in words-writer, words-good, rules, tries, c.in_ok-end.was)

pub returns : goal.returns
unfolding words_held
returns c = search (write-off words-writer, write-place words-writer, write-in words-writer, words-good, rules, tries)
