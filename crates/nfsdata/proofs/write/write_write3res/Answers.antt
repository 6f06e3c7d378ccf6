-- made by tools/generate from crates/nfsdata/rfc/write.x
use Rattle.xdr.specs.Laws.Writers.{write-off, write-place, write-on}
use Rattle.xdr.specs.Laws.Answers.{tries, exit}
use Rattle.nfsdata.proofs.WriteRanges.{write-res-good}
use Rattle.nfsdata.specs.Laws.Write.{write-res-writer}
use Rattle.nfsdata.proofs.write.write_write3res.Goals as goal

pub returns-in_err-end : goal.returns-in_err-end
returns-in_err-end c = search (write-off write-res-writer, tries, exit c.from_residual.ensures.1)

pub slice_bounds-put_write3res-count : goal.slice_bounds-put_write3res-count
slice_bounds-put_write3res-count c = search (write-place write-res-writer, c.in_ok-end.was)

pub slice_bounds-put_write3res-start : goal.slice_bounds-put_write3res-start
slice_bounds-put_write3res-start c = search (write-place write-res-writer, c.in_ok-end.was)

pub returns : goal.returns
returns c = search (write-on write-res-writer, write-res-good, tries)
