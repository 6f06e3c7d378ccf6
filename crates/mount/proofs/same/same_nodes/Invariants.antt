use Rattle.std.proofs.Common.{◌-◌, length}
use Rattle.mount.specs.Meaning.Export.{node}
use Rattle.mount.specs.Laws.Pairs.{Along}
use Rattle.mount.proofs.same.same_nodes.Given as goal

abbrev pub invariant-loop-s : goal.invariant-loop-s
invariant-loop-s l = Along node l.a l.initial.i l.b l.initial.j l.i l.j

abbrev pub decreases-loop-s : goal.decreases-loop-s
decreases-loop-s l = length l.a - l.i
