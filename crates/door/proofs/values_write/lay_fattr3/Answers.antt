use Rattle.std.proofs.Common.{arith, refl}
use Rattle.xdr.specs.Laws.Lays.{lay-three}
use Rattle.door.specs.Laws.LaidFattr.{fattr-of, fattr-long, ids-long, behind-sizes}
use Rattle.door.proofs.values_write.lay_fattr3.Goals as goal

pub returns : goal.returns
returns c = lay-three _ _ _ _ _ _ _ _ _ _ _ c.lay_ids.ensures c.lay_sizes.ensures c.lay_times.ensures (fattr-of _) (ids-long _) (behind-sizes _ _ _ refl) (omega arith) (fattr-long _)
