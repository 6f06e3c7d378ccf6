-- made by tools/generate from crates/nfs/rfc/dir.x
use Rattle.xdr.specs.Laws.Writers.{write-off, write-place, write-on}
use Rattle.xdr.specs.Laws.Answers.{tries, exit}
use Rattle.nfs.proofs.DirRanges.{nfs-fh-good}
use Rattle.nfs.specs.Laws.Dir.{nfs-fh-writer}
use Rattle.nfs.proofs.dir.write_nfs_fh3.Goals as goal

pub returns-in_err-end : goal.returns-in_err-end
returns-in_err-end c = search (write-off nfs-fh-writer, tries, exit c.from_residual.ensures.1)

pub slice_bounds-put_nfs_fh3-count : goal.slice_bounds-put_nfs_fh3-count
slice_bounds-put_nfs_fh3-count c = search (write-place nfs-fh-writer, c.in_ok-end.was)

pub slice_bounds-put_nfs_fh3-start : goal.slice_bounds-put_nfs_fh3-start
slice_bounds-put_nfs_fh3-start c = search (write-place nfs-fh-writer, c.in_ok-end.was)

pub returns : goal.returns
returns c = search (write-on nfs-fh-writer, nfs-fh-good, tries)
