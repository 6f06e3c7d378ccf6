use Rattle.std.proofs.Common.{◌≡◌, ◌+◌, ◌-◌, ◌≤◌, length}
use Rattle.mount.specs.Meaning.Group.{groups}
use Rattle.mount.specs.Laws.Group.{names_on}
use Rattle.mount.proofs.group.names_behind.Given as goal

abbrev pub invariant-loop-step : goal.invariant-loop-step
invariant-loop-step l =
    (groups.held.read l.src l.at ≡ names_on l.src l.at l.here l.count l.plain l.clean) × (l.at + l.count ≤ l.here)

abbrev pub decreases-loop-step : goal.decreases-loop-step
decreases-loop-step l = length l.src - l.here
