use borrow.Author.Rules.{rules}
use Rattle.xdr.specs.Laws.Fixed.{hyper-fixed}
use Rattle.xdr.specs.Laws.Lays.{fixed_on, rooms}
use Rattle.xdr.proofs.Refused.{fixed_off}
use Rattle.xdr.specs.Laws.Ranges.{hyper-good}
use Rattle.xdr.specs.Laws.Answers.{tries, exit}
use Rattle.xdr.proofs.write.write_u64.Goals as goal

pub returns-in_err-end : goal.returns-in_err-end
returns-in_err-end c = search (fixed_off hyper-fixed, rooms, fixed_on hyper-fixed, hyper-good, rules, tries, exit c.from_residual.ensures.1)

pub slice_bounds-put_u64-count : goal.slice_bounds-put_u64-count
slice_bounds-put_u64-count c = search (fixed_off hyper-fixed, rooms, fixed_on hyper-fixed, hyper-good, rules, tries)

pub slice_bounds-put_u64-start : goal.slice_bounds-put_u64-start
slice_bounds-put_u64-start c = search (fixed_off hyper-fixed, rooms, fixed_on hyper-fixed, hyper-good, rules, tries)

pub returns : goal.returns
returns c = search (fixed_off hyper-fixed, rooms, fixed_on hyper-fixed, hyper-good, rules, tries)
