use Rattle.std.proofs.Common.{arith, refl}
use Rattle.xdr.specs.Laws.Fixed.{word-pair-fixed}
use Rattle.xdr.specs.Laws.Lays.{lay-three, size_is, size-behind}
use Rattle.door.specs.Laws.LaidFattr.{times-of, times_long}
use Rattle.door.proofs.values_write.lay_times.Goals as goal

pub returns : goal.returns
returns c = lay-three _ _ _ _ _ _ _ _ _ _ _ c.put_u32_pair.ensures c.put_u32_pair-2.ensures c.put_u32_pair-3.ensures (times-of _) (size_is word-pair-fixed _) (size-behind word-pair-fixed _ _ _ refl) (omega arith) (times_long _)
