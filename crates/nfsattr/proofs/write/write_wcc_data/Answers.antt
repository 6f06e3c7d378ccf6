use borrow.Author.Rules.{rules}
use Rattle.xdr.specs.Laws.Writers.{plain-on}
use Rattle.xdr.proofs.Refused.{plain-off}
use Rattle.xdr.specs.Laws.Lays.{rooms}
use Rattle.nfsattr.specs.Meaning.Attr.{wcc-data}
use Rattle.nfsattr.specs.Laws.Bytes.{wcc-data-small}
use Rattle.nfsattr.proofs.Ranges.{wcc-data-good}
use Rattle.xdr.specs.Laws.Answers.{tries, exit}
use Rattle.nfsattr.proofs.write.write_wcc_data.Goals as goal

pub returns-in_err-end : goal.returns-in_err-end
returns-in_err-end c = search (plain-off wcc-data wcc-data-small, rooms, plain-on wcc-data wcc-data-small, wcc-data-good, rules, tries, exit c.from_residual.ensures.1)

pub slice_bounds-put_wcc_data-count : goal.slice_bounds-put_wcc_data-count
slice_bounds-put_wcc_data-count c = search (plain-off wcc-data wcc-data-small, rooms, plain-on wcc-data wcc-data-small, wcc-data-good, rules, tries)

pub slice_bounds-put_wcc_data-start : goal.slice_bounds-put_wcc_data-start
slice_bounds-put_wcc_data-start c = search (plain-off wcc-data wcc-data-small, rooms, plain-on wcc-data wcc-data-small, wcc-data-good, rules, tries)

pub returns : goal.returns
returns c = search (plain-off wcc-data wcc-data-small, rooms, plain-on wcc-data wcc-data-small, wcc-data-good, rules, tries)
