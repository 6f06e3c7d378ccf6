use Rattle.std.proofs.Common.{◌-◌}
use Rattle.mount.specs.Laws.Same.{Agree}
use Rattle.mount.proofs.same.same_bytes.Given as goal

abbrev pub invariant-loop-k : goal.invariant-loop-k
invariant-loop-k l = Agree l.a l.i l.b l.j l.n l.k

abbrev pub decreases-loop-k : goal.decreases-loop-k
decreases-loop-k l = l.n - l.k
