-- made by tools/generate from crates/nfsdata/rfc/write.x
use Rattle.xdr.specs.Laws.Writers.{write-off, write-place, write-on}
use Rattle.xdr.specs.Laws.Answers.{tries, exit}
use Rattle.nfsdata.proofs.WriteRanges.{write-args-good}
use Rattle.nfsdata.specs.Laws.Write.{write-args-writer}
use Rattle.nfsdata.proofs.write.write_write3args.Goals as goal

pub returns-in_err-end : goal.returns-in_err-end
returns-in_err-end c = search (write-off write-args-writer, tries, exit c.from_residual.ensures.1)

pub slice_bounds-put_write3args-count : goal.slice_bounds-put_write3args-count
slice_bounds-put_write3args-count c = search (write-place write-args-writer, c.in_ok-end.was)

pub slice_bounds-put_write3args-start : goal.slice_bounds-put_write3args-start
slice_bounds-put_write3args-start c = search (write-place write-args-writer, c.in_ok-end.was)

pub returns : goal.returns
returns c = search (write-on write-args-writer, write-args-good, tries)
