-- made by tools/generate from crates/mount/rfc/mnt.x
use Rattle.xdr.specs.Laws.Writers.{write-off, write-place, write-in}
use Rattle.xdr.specs.Laws.Answers.{tries, exit}
use Rattle.mount.proofs.MntRanges.{mountres-good}
use Rattle.mount.specs.Laws.Mnt.{mountres-writer}
use Rattle.mount.proofs.mnt.write_mountres3.Goals as goal

pub returns-in_err-end : goal.returns-in_err-end
returns-in_err-end c = search (write-off mountres-writer, tries, exit c.from_residual.ensures.1)

pub slice_bounds-put_mountres3-count : goal.slice_bounds-put_mountres3-count
slice_bounds-put_mountres3-count c = search (write-place mountres-writer, c.in_ok-end.was)

pub slice_bounds-put_mountres3-start : goal.slice_bounds-put_mountres3-start
slice_bounds-put_mountres3-start c = search (write-place mountres-writer, c.in_ok-end.was)

pub returns : goal.returns
returns c = search (write-in mountres-writer, mountres-good, tries)
