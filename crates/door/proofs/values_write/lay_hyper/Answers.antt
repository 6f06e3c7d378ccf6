use Rattle.std.proofs.Common.{rules}
use Rattle.door.specs.Laws.Laid.{hyper-none, hyper-some}
use Rattle.door.proofs.values_write.lay_hyper.Goals as goal

pub returns-then-flag-eq0 : goal.returns-then-flag-eq0
returns-then-flag-eq0 c = search (rules, hyper-none)

pub returns : goal.returns
returns c = search (rules, hyper-some)
