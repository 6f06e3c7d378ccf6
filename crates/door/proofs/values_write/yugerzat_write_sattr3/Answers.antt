use Rattle.std.proofs.Common.{rules}
use Rattle.door.specs.Laws.Laid.{write-laid}
use Rattle.door.proofs.values_write.yugerzat_write_sattr3.Goals as goal

pub returns : goal.returns
returns c = search (rules, write-laid c.sattr3_quick.ensures c.if-not-sattr3_quick.false)
