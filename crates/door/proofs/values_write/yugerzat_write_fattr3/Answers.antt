use Rattle.std.proofs.Common.{rules}
use Rattle.door.specs.Laws.LaidFattr.{write-laid}
use Rattle.door.proofs.values_write.yugerzat_write_fattr3.Goals as goal

pub returns : goal.returns
returns c = search (rules, write-laid c.fattr3_quick.ensures c.if-not-fattr3_quick.false)
