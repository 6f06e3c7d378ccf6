-- made by tools/generate from crates/nfsdata/rfc/read.x
use Rattle.xdr.specs.Laws.Writers.{write-off, write-place, write-on}
use Rattle.xdr.specs.Laws.Answers.{tries, exit}
use Rattle.nfsdata.proofs.ReadRanges.{read-args-good}
use Rattle.nfsdata.specs.Laws.Read.{read-args-writer}
use Rattle.nfsdata.proofs.read.write_read3args.Goals as goal

pub returns-in_err-end : goal.returns-in_err-end
returns-in_err-end c = search (write-off read-args-writer, tries, exit c.from_residual.ensures.1)

pub slice_bounds-put_read3args-count : goal.slice_bounds-put_read3args-count
slice_bounds-put_read3args-count c = search (write-place read-args-writer, c.in_ok-end.was)

pub slice_bounds-put_read3args-start : goal.slice_bounds-put_read3args-start
slice_bounds-put_read3args-start c = search (write-place read-args-writer, c.in_ok-end.was)

pub returns : goal.returns
returns c = search (write-on read-args-writer, read-args-good, tries)
