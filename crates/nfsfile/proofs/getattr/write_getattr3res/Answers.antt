-- made by tools/generate from crates/nfsfile/rfc/getattr.x
use Rattle.xdr.specs.Laws.Writers.{write-off, write-place, write-on}
use Rattle.xdr.specs.Laws.Answers.{tries, exit}
use Rattle.nfsfile.proofs.GetattrRanges.{getattr-res-good}
use Rattle.nfsfile.specs.Laws.Getattr.{getattr-res-writer}
use Rattle.nfsfile.proofs.getattr.write_getattr3res.Goals as goal

pub returns-in_err-end : goal.returns-in_err-end
returns-in_err-end c = search (write-off getattr-res-writer, tries, exit c.from_residual.ensures.1)

pub slice_bounds-put_getattr3res-count : goal.slice_bounds-put_getattr3res-count
slice_bounds-put_getattr3res-count c = search (write-place getattr-res-writer, c.in_ok-end.was)

pub slice_bounds-put_getattr3res-start : goal.slice_bounds-put_getattr3res-start
slice_bounds-put_getattr3res-start c = search (write-place getattr-res-writer, c.in_ok-end.was)

pub returns : goal.returns
returns c = search (write-on getattr-res-writer, getattr-res-good, tries)
