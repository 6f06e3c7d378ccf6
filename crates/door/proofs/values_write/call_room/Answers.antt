use Rattle.xdr.specs.Laws.Lays.{sums}
use Rattle.door.proofs.values_write.call_room.Goals as goal

pub overflow_add-size : goal.overflow_add-size
overflow_add-size c = search sums

pub overflow_add-size-2 : goal.overflow_add-size-2
overflow_add-size-2 c = search sums
