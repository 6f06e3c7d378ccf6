-- made by tools/generate from crates/nfsfile/rfc/lookup.x
use Rattle.xdr.specs.Laws.Writers.{write-off, write-place, write-on}
use Rattle.xdr.specs.Laws.Answers.{tries, exit}
use Rattle.nfsfile.proofs.LookupRanges.{lookup-args-good}
use Rattle.nfsfile.specs.Laws.Lookup.{lookup-args-writer}
use Rattle.nfsfile.proofs.lookup.write_lookup3args.Goals as goal

pub returns-in_err-end : goal.returns-in_err-end
returns-in_err-end c = search (write-off lookup-args-writer, tries, exit c.from_residual.ensures.1)

pub slice_bounds-put_lookup3args-count : goal.slice_bounds-put_lookup3args-count
slice_bounds-put_lookup3args-count c = search (write-place lookup-args-writer, c.in_ok-end.was)

pub slice_bounds-put_lookup3args-start : goal.slice_bounds-put_lookup3args-start
slice_bounds-put_lookup3args-start c = search (write-place lookup-args-writer, c.in_ok-end.was)

pub returns : goal.returns
returns c = search (write-on lookup-args-writer, lookup-args-good, tries)
