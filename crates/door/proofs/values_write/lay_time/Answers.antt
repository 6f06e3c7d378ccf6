use Rattle.std.proofs.Common.{rules}
use Rattle.door.specs.Laws.Laid.{time-none, time-client}
use Rattle.door.proofs.values_write.lay_time.Goals as goal

pub returns-then-tag-ne2 : goal.returns-then-tag-ne2
returns-then-tag-ne2 c = search (rules, time-none)

pub returns : goal.returns
returns c = search (rules, time-client)
