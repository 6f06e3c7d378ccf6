use Rattle.std.proofs.Common.{◌-◌}
use Rattle.door.specs.Laws.Figures.{Stored}
use Rattle.door.proofs.figures.put_figures.Given as goal

abbrev pub invariant-loop-i : goal.invariant-loop-i
invariant-loop-i l = Stored l.figures l.zeros l.initial.info l.i l.info

abbrev pub decreases-loop-i : goal.decreases-loop-i
decreases-loop-i l = l.end - l.i
