use Rattle.std.proofs.Common.{rules}
use Rattle.door.specs.Laws.Figures.{stored_next}
use Rattle.door.proofs.figures.put_figures.Goals as goal

pub loop-i-preserved : goal.loop-i-preserved
loop-i-preserved c = search (stored_next, rules)
