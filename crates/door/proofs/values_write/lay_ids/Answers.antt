use Rattle.std.proofs.Common.{arith, refl}
use Rattle.xdr.specs.Laws.Fixed.{word-fixed, word-pair-fixed}
use Rattle.xdr.specs.Laws.Lays.{lay-three, size_is, size-behind}
use Rattle.door.specs.Laws.LaidFattr.{ids-of, ids-long}
use Rattle.door.proofs.values_write.lay_ids.Goals as goal

pub returns : goal.returns
returns c = lay-three _ _ _ _ _ _ _ _ _ _ _ c.put_u32.ensures c.put_u32_pair.ensures c.put_u32_pair-2.ensures (ids-of _) (size_is word-fixed _) (size-behind word-pair-fixed _ _ _ refl) (omega arith) (ids-long _)
