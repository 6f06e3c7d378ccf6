use borrow.Author.Rules.{rules}
use Rattle.xdr.specs.Laws.Fixed.{long-fixed}
use Rattle.xdr.specs.Laws.Lays.{fixed_on, rooms, lay-one}
use Rattle.xdr.proofs.Refused.{fixed_off}
use Rattle.xdr.specs.Laws.Ranges.{long-good}
use Rattle.xdr.specs.Laws.Answers.{tries, exit}
use Rattle.xdr.proofs.write.write_i64.Goals as goal

pub returns-in_err-end : goal.returns-in_err-end
returns-in_err-end c = search (fixed_off long-fixed, rooms, fixed_on long-fixed, long-good, lay-one, rules, tries, exit c.from_residual.ensures.1)

pub slice_bounds-put_i64-count : goal.slice_bounds-put_i64-count
slice_bounds-put_i64-count c = search (fixed_off long-fixed, rooms, fixed_on long-fixed, long-good, lay-one, rules, tries)

pub slice_bounds-put_i64-start : goal.slice_bounds-put_i64-start
slice_bounds-put_i64-start c = search (fixed_off long-fixed, rooms, fixed_on long-fixed, long-good, lay-one, rules, tries)

pub returns : goal.returns
returns c = search (fixed_off long-fixed, rooms, fixed_on long-fixed, long-good, lay-one, rules, tries)
