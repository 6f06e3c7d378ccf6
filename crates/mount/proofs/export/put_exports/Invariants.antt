use Rattle.std.proofs.Common.{◌≡◌, ◌-◌, ◌≤◌, length}
use Rattle.xdr.specs.Laws.Laying.{Partly}
use Rattle.mount.specs.Meaning.Export.{node}
use Rattle.mount.proofs.export.put_exports.Given as goal

abbrev pub invariant-loop-step : goal.invariant-loop-step
invariant-loop-step l = Partly node l.src l.at l.initial.out l.here l.out × (l.at ≤ l.here) × (length l.out ≡ length l.initial.out)

abbrev pub decreases-loop-step : goal.decreases-loop-step
decreases-loop-step l = length l.src - l.here
