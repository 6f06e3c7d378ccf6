use Rattle.std.proofs.Common.{rules}
use Rattle.door.specs.Laws.Given.{write_as, sattr3-some}
use Rattle.door.proofs.values_write.write_sattr3_carefully.Goals as goal

pub returns : goal.returns
returns c = search (write_as, sattr3-some, rules)
