use Rattle.std.proofs.Common.{rules}
use Rattle.door.specs.Laws.Given.{diropargs3-fits}
use Rattle.door.proofs.values_write.yugerzat_write_diropargs3.Goals as goal

pub returns : goal.returns
returns c = search (diropargs3-fits, rules)
