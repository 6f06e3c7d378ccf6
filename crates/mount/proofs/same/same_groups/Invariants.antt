use Rattle.std.proofs.Common.{◌-◌, length}
use Rattle.xdr.specs.Meaning.Formats.{bytes}
use Rattle.mount.specs.Laws.Pairs.{Along}
use Rattle.mount.proofs.same.same_groups.Given as goal

abbrev pub invariant-loop-s : goal.invariant-loop-s
invariant-loop-s l = Along bytes l.a l.initial.i l.b l.initial.j l.i l.j

abbrev pub decreases-loop-s : goal.decreases-loop-s
decreases-loop-s l = length l.a - l.i
