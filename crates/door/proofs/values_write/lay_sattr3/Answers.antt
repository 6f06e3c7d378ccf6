use Rattle.std.proofs.Common.{arith}
use Rattle.door.specs.Laws.Laid.{laid-two, sattr-of}
use Rattle.door.proofs.values_write.lay_sattr3.Goals as goal

pub returns : goal.returns
returns c = laid-two c.lay_owner-n.ensures c.lay_change.ensures (sattr-of _) (omega arith) (omega arith)
