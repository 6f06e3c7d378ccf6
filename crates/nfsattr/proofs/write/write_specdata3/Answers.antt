use borrow.Author.Rules.{rules}
use Rattle.xdr.specs.Laws.Lays.{fixed_on, rooms}
use Rattle.xdr.proofs.Refused.{fixed_off}
use Rattle.nfsattr.specs.Laws.Sizes.{specdata-fixed}
use Rattle.nfsattr.proofs.Ranges.{specdata-good}
use Rattle.xdr.specs.Laws.Answers.{tries, exit}
use Rattle.nfsattr.proofs.write.write_specdata3.Goals as goal

pub returns-in_err-end : goal.returns-in_err-end
returns-in_err-end c = search (fixed_off specdata-fixed, rooms, fixed_on specdata-fixed, specdata-good, rules, tries, exit c.from_residual.ensures.1)

pub slice_bounds-put_specdata3-count : goal.slice_bounds-put_specdata3-count
slice_bounds-put_specdata3-count c = search (fixed_off specdata-fixed, rooms, fixed_on specdata-fixed, specdata-good, rules, tries)

pub slice_bounds-put_specdata3-start : goal.slice_bounds-put_specdata3-start
slice_bounds-put_specdata3-start c = search (fixed_off specdata-fixed, rooms, fixed_on specdata-fixed, specdata-good, rules, tries)

pub returns : goal.returns
returns c = search (fixed_off specdata-fixed, rooms, fixed_on specdata-fixed, specdata-good, rules, tries)
