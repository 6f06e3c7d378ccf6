use Rattle.xdr.specs.Laws.Lays.{lays, lay-three, sums, behind}
use Rattle.nfs.specs.Laws.Bytes.{owner-size, owner-bytes}
use Rattle.nfs.specs.Laws.Change.{set-mode-small, set-uid-small, set-gid-small}
use Rattle.nfs.proofs.put.set.put_owner.Goals as goal

pub overflow_add-n2 : goal.overflow_add-n2
overflow_add-n2 c = search (sums, set-mode-small, set-uid-small)

pub overflow_add-n2-2 : goal.overflow_add-n2-2
overflow_add-n2-2 c = search (sums, set-mode-small, set-uid-small, set-gid-small)

pub returns-then-out-n2 : goal.returns-then-out-n2
returns-then-out-n2 c = search (lays, owner-size)

-- the calls, the last one first, and the test of room
pub returns : goal.returns
returns c =
    search (
      lay-three,
      owner-bytes,
      owner-size,
      behind,
      c.set_mode3_size-n1.ensures,
      c.set_uid3_size.ensures,
      c.set_gid3_size.ensures,
      c.if-out-n2.false,
      c.put_set_mode3.ensures,
      c.put_set_uid3.ensures,
      c.put_set_gid3.ensures,
    )
