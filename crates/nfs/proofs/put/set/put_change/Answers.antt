use Rattle.xdr.specs.Laws.Lays.{lays, lay-three, sums, behind}
use Rattle.nfs.specs.Laws.Bytes.{set-atime-small, set-mtime-small, change-size, change-bytes}
use Rattle.nfs.specs.Laws.Change.{set-size-small}
use Rattle.nfs.proofs.put.set.put_change.Goals as goal

pub overflow_add-n2 : goal.overflow_add-n2
overflow_add-n2 c = search (sums, set-size-small, set-atime-small)

pub overflow_add-n2-2 : goal.overflow_add-n2-2
overflow_add-n2-2 c = search (sums, set-size-small, set-atime-small, set-mtime-small)

pub returns-then-out-n2 : goal.returns-then-out-n2
returns-then-out-n2 c = search (lays, change-size)

-- the calls, the last one first, and the test of room
pub returns : goal.returns
returns c =
    search (
      lay-three,
      change-bytes,
      change-size,
      behind,
      c.set_size3_size-n1.ensures,
      c.set_atime_size.ensures,
      c.set_mtime_size.ensures,
      c.if-out-n2.false,
      c.put_set_size3.ensures,
      c.put_set_atime.ensures,
      c.put_set_mtime.ensures,
    )
