use Rattle.std.proofs.Common.{arith}
use Rattle.door.specs.Laws.Laid.{laid-three, change-of}
use Rattle.door.proofs.values_write.lay_change.Goals as goal

pub returns : goal.returns
returns c = laid-three c.lay_hyper-n1.ensures c.lay_time.ensures c.lay_time-2.ensures (change-of _) (omega arith) (omega arith)
