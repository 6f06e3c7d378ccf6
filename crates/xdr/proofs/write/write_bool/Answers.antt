use borrow.Author.Rules.{rules}
use Rattle.xdr.specs.Laws.Fixed.{flag-fixed}
use Rattle.xdr.specs.Laws.Lays.{fixed_on, rooms}
use Rattle.xdr.proofs.Refused.{fixed_off}
use Rattle.xdr.specs.Laws.Ranges.{flag-good}
use Rattle.xdr.specs.Laws.Answers.{tries, exit}
use Rattle.xdr.proofs.write.write_bool.Goals as goal

pub returns-in_err-end : goal.returns-in_err-end
returns-in_err-end c = search (fixed_off flag-fixed, rooms, fixed_on flag-fixed, flag-good, rules, tries, exit c.from_residual.ensures.1)

pub slice_bounds-put_bool-count : goal.slice_bounds-put_bool-count
slice_bounds-put_bool-count c = search (fixed_off flag-fixed, rooms, fixed_on flag-fixed, flag-good, rules, tries)

pub slice_bounds-put_bool-start : goal.slice_bounds-put_bool-start
slice_bounds-put_bool-start c = search (fixed_off flag-fixed, rooms, fixed_on flag-fixed, flag-good, rules, tries)

pub returns : goal.returns
returns c = search (fixed_off flag-fixed, rooms, fixed_on flag-fixed, flag-good, rules, tries)
