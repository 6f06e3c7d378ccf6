use Rattle.xdr.specs.Laws.Lays.{lays, lay-two, sums}
use Rattle.nfs.specs.Laws.Bytes.{owner-small, change-small, sattr-bytes, sattr-size}
use Rattle.nfs.proofs.put.set.put_sattr3.Goals as goal

pub overflow_add-n : goal.overflow_add-n
overflow_add-n c = search (sums, owner-small, change-small)

pub returns-then-out-n : goal.returns-then-out-n
returns-then-out-n c = search (lays, sattr-size)

-- the calls, the last one first, and the test of room
pub returns : goal.returns
returns c =
    search (
      lay-two,
      sattr-bytes,
      sattr-size,
      c.owner_size-n.ensures,
      c.change_size.ensures,
      c.if-out-n.false,
      c.put_owner.ensures,
      c.put_change.ensures,
    )
