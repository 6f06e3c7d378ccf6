use Rattle.std.proofs.Common.{arith, refl}
use Rattle.xdr.specs.Laws.Fixed.{word-pair-fixed, hyper-pair-fixed}
use Rattle.xdr.specs.Laws.Lays.{lay-three, size_is, size-behind}
use Rattle.door.specs.Laws.LaidFattr.{sizes-of, sizes-long}
use Rattle.door.proofs.values_write.lay_sizes.Goals as goal

pub returns : goal.returns
returns c = lay-three _ _ _ _ _ _ _ _ _ _ _ c.put_u64_pair.ensures c.put_u32_pair.ensures c.put_u64_pair-2.ensures (sizes-of _) (size_is hyper-pair-fixed _) (size-behind word-pair-fixed _ _ _ refl) (omega arith) (sizes-long _)
