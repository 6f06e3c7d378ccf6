-- made by tools/generate from crates/nfsfile/rfc/getattr.x
use Rattle.xdr.specs.Laws.Writers.{write-off, write-place, write-on}
use Rattle.xdr.specs.Laws.Answers.{tries, exit}
use Rattle.nfsfile.proofs.GetattrRanges.{getattr-args-good}
use Rattle.nfsfile.specs.Laws.Getattr.{getattr-args-writer}
use Rattle.nfsfile.proofs.getattr.write_getattr3args.Goals as goal

pub returns-in_err-end : goal.returns-in_err-end
returns-in_err-end c = search (write-off getattr-args-writer, tries, exit c.from_residual.ensures.1)

pub slice_bounds-put_getattr3args-count : goal.slice_bounds-put_getattr3args-count
slice_bounds-put_getattr3args-count c = search (write-place getattr-args-writer, c.in_ok-end.was)

pub slice_bounds-put_getattr3args-start : goal.slice_bounds-put_getattr3args-start
slice_bounds-put_getattr3args-start c = search (write-place getattr-args-writer, c.in_ok-end.was)

pub returns : goal.returns
returns c = search (write-on getattr-args-writer, getattr-args-good, tries)
