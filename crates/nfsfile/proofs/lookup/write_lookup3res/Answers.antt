-- made by tools/generate from crates/nfsfile/rfc/lookup.x
use Rattle.xdr.specs.Laws.Writers.{write-off, write-place, write-on}
use Rattle.xdr.specs.Laws.Answers.{tries, exit}
use Rattle.nfsfile.proofs.LookupRanges.{lookup-res-good}
use Rattle.nfsfile.specs.Laws.Lookup.{lookup-res-writer}
use Rattle.nfsfile.proofs.lookup.write_lookup3res.Goals as goal

pub returns-in_err-end : goal.returns-in_err-end
returns-in_err-end c = search (write-off lookup-res-writer, tries, exit c.from_residual.ensures.1)

pub slice_bounds-put_lookup3res-count : goal.slice_bounds-put_lookup3res-count
slice_bounds-put_lookup3res-count c = search (write-place lookup-res-writer, c.in_ok-end.was)

pub slice_bounds-put_lookup3res-start : goal.slice_bounds-put_lookup3res-start
slice_bounds-put_lookup3res-start c = search (write-place lookup-res-writer, c.in_ok-end.was)

pub returns : goal.returns
returns c = search (write-on lookup-res-writer, lookup-res-good, tries)
