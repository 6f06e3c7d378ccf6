use Rattle.std.proofs.Common.{◌≡◌, ◌+◌, ◌-◌, ◌≤◌, length}
use Rattle.mount.specs.Meaning.Export.{walk_of}
use Rattle.mount.specs.Laws.Export.{entries_on}
use Rattle.mount.proofs.export.walk.Given as goal

abbrev pub invariant-loop-step : goal.invariant-loop-step
invariant-loop-step l = (walk_of l.src l.at ≡ entries_on l.src l.here l.count l.plain l.clean l.long) × (l.at + l.count ≤ l.here)

abbrev pub decreases-loop-step : goal.decreases-loop-step
decreases-loop-step l = length l.src - l.here
