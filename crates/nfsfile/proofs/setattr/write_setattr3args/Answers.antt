-- made by tools/generate from crates/nfsfile/rfc/setattr.x
use Rattle.xdr.specs.Laws.Writers.{write-off, write-place, write-on}
use Rattle.xdr.specs.Laws.Answers.{tries, exit}
use Rattle.nfsfile.proofs.SetattrRanges.{setattr-args-good}
use Rattle.nfsfile.specs.Laws.Setattr.{setattr-args-writer}
use Rattle.nfsfile.proofs.setattr.write_setattr3args.Goals as goal

pub returns-in_err-end : goal.returns-in_err-end
returns-in_err-end c = search (write-off setattr-args-writer, tries, exit c.from_residual.ensures.1)

pub slice_bounds-put_setattr3args-count : goal.slice_bounds-put_setattr3args-count
slice_bounds-put_setattr3args-count c = search (write-place setattr-args-writer, c.in_ok-end.was)

pub slice_bounds-put_setattr3args-start : goal.slice_bounds-put_setattr3args-start
slice_bounds-put_setattr3args-start c = search (write-place setattr-args-writer, c.in_ok-end.was)

pub returns : goal.returns
returns c = search (write-on setattr-args-writer, setattr-args-good, tries)
