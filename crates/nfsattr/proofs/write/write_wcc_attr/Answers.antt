use borrow.Author.Rules.{rules}
use Rattle.xdr.specs.Laws.Lays.{fixed_on, rooms}
use Rattle.xdr.proofs.Refused.{fixed_off}
use Rattle.nfsattr.specs.Laws.Sizes.{wcc-attr-fixed}
use Rattle.nfsattr.proofs.Ranges.{wcc-attr-good}
use Rattle.xdr.specs.Laws.Answers.{tries, exit}
use Rattle.nfsattr.proofs.write.write_wcc_attr.Goals as goal

pub returns-in_err-end : goal.returns-in_err-end
returns-in_err-end c = search (fixed_off wcc-attr-fixed, rooms, fixed_on wcc-attr-fixed, wcc-attr-good, rules, tries, exit c.from_residual.ensures.1)

pub slice_bounds-put_wcc_attr-count : goal.slice_bounds-put_wcc_attr-count
slice_bounds-put_wcc_attr-count c = search (fixed_off wcc-attr-fixed, rooms, fixed_on wcc-attr-fixed, wcc-attr-good, rules, tries)

pub slice_bounds-put_wcc_attr-start : goal.slice_bounds-put_wcc_attr-start
slice_bounds-put_wcc_attr-start c = search (fixed_off wcc-attr-fixed, rooms, fixed_on wcc-attr-fixed, wcc-attr-good, rules, tries)

pub returns : goal.returns
returns c = search (fixed_off wcc-attr-fixed, rooms, fixed_on wcc-attr-fixed, wcc-attr-good, rules, tries)
