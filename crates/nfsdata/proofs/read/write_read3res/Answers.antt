-- made by tools/generate from crates/nfsdata/rfc/read.x
use Rattle.xdr.specs.Laws.Writers.{write-off, write-place, write-on}
use Rattle.xdr.specs.Laws.Answers.{tries, exit}
use Rattle.nfsdata.proofs.ReadRanges.{read-res-good}
use Rattle.nfsdata.specs.Laws.Read.{read-res-writer}
use Rattle.nfsdata.proofs.read.write_read3res.Goals as goal

pub returns-in_err-end : goal.returns-in_err-end
returns-in_err-end c = search (write-off read-res-writer, tries, exit c.from_residual.ensures.1)

pub slice_bounds-put_read3res-count : goal.slice_bounds-put_read3res-count
slice_bounds-put_read3res-count c = search (write-place read-res-writer, c.in_ok-end.was)

pub slice_bounds-put_read3res-start : goal.slice_bounds-put_read3res-start
slice_bounds-put_read3res-start c = search (write-place read-res-writer, c.in_ok-end.was)

pub returns : goal.returns
returns c = search (write-on read-res-writer, read-res-good, tries)
