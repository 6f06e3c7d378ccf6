use borrow.Author.Rules.{rules}
use Rattle.xdr.specs.Laws.Lays.{fixed_on, rooms}
use Rattle.xdr.proofs.Refused.{fixed_off}
use Rattle.nfsattr.specs.Laws.Sizes.{fattr-fixed}
use Rattle.nfsattr.proofs.Ranges.{fattr-good}
use Rattle.xdr.specs.Laws.Answers.{tries, exit}
use Rattle.nfsattr.proofs.write.write_fattr3.Goals as goal

pub returns-in_err-end : goal.returns-in_err-end
returns-in_err-end c = search (fixed_off fattr-fixed, rooms, fixed_on fattr-fixed, fattr-good, rules, tries, exit c.from_residual.ensures.1)

pub slice_bounds-put_fattr3-count : goal.slice_bounds-put_fattr3-count
slice_bounds-put_fattr3-count c = search (fixed_off fattr-fixed, rooms, fixed_on fattr-fixed, fattr-good, rules, tries)

pub slice_bounds-put_fattr3-start : goal.slice_bounds-put_fattr3-start
slice_bounds-put_fattr3-start c = search (fixed_off fattr-fixed, rooms, fixed_on fattr-fixed, fattr-good, rules, tries)

pub returns : goal.returns
returns c = search (fixed_off fattr-fixed, rooms, fixed_on fattr-fixed, fattr-good, rules, tries)
