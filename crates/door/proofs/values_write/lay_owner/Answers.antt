use Rattle.std.proofs.Common.{arith}
use Rattle.door.specs.Laws.Laid.{laid-three, owner_of_lem}
use Rattle.door.proofs.values_write.lay_owner.Goals as goal

pub returns : goal.returns
returns c = laid-three c.lay_word-n1.ensures c.lay_word.ensures c.lay_word-2.ensures (owner_of_lem _) (omega arith) (omega arith)
