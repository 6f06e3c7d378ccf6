-- made by tools/generate from crates/nfsfile/rfc/setattr.x
use Rattle.xdr.specs.Laws.Writers.{write-off, write-place, write-on}
use Rattle.xdr.specs.Laws.Answers.{tries, exit}
use Rattle.nfsfile.proofs.SetattrRanges.{setattr-res-good}
use Rattle.nfsfile.specs.Laws.Setattr.{setattr-res-writer}
use Rattle.nfsfile.proofs.setattr.write_setattr3res.Goals as goal

pub returns-in_err-end : goal.returns-in_err-end
returns-in_err-end c = search (write-off setattr-res-writer, tries, exit c.from_residual.ensures.1)

pub slice_bounds-put_setattr3res-count : goal.slice_bounds-put_setattr3res-count
slice_bounds-put_setattr3res-count c = search (write-place setattr-res-writer, c.in_ok-end.was)

pub slice_bounds-put_setattr3res-start : goal.slice_bounds-put_setattr3res-start
slice_bounds-put_setattr3res-start c = search (write-place setattr-res-writer, c.in_ok-end.was)

pub returns : goal.returns
returns c = search (write-on setattr-res-writer, setattr-res-good, tries)
