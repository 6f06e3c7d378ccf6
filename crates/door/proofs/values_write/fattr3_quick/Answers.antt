use Rattle.std.proofs.Common.{rules}
use Rattle.door.specs.Laws.LaidFattr.{quick-by}
use Rattle.door.proofs.values_write.fattr3_quick.Goals as goal

pub returns : goal.returns
returns c = search (rules, quick-by)
