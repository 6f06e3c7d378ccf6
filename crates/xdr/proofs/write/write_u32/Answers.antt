use borrow.Author.Rules.{rules}
use Rattle.xdr.specs.Laws.Fixed.{word-fixed}
use Rattle.xdr.specs.Laws.Lays.{fixed_on, rooms}
use Rattle.xdr.proofs.Refused.{fixed_off}
use Rattle.xdr.specs.Laws.Ranges.{word_good}
use Rattle.xdr.specs.Laws.Answers.{tries, exit}
use Rattle.xdr.proofs.write.write_u32.Goals as goal

pub returns-in_err-end : goal.returns-in_err-end
returns-in_err-end c = search (fixed_off word-fixed, rooms, fixed_on word-fixed, word_good, rules, tries, exit c.from_residual.ensures.1)

pub slice_bounds-put_u32-count : goal.slice_bounds-put_u32-count
slice_bounds-put_u32-count c = search (fixed_off word-fixed, rooms, fixed_on word-fixed, word_good, rules, tries)

pub slice_bounds-put_u32-start : goal.slice_bounds-put_u32-start
slice_bounds-put_u32-start c = search (fixed_off word-fixed, rooms, fixed_on word-fixed, word_good, rules, tries)

pub returns : goal.returns
returns c = search (fixed_off word-fixed, rooms, fixed_on word-fixed, word_good, rules, tries)
