-- The rest of the run, fed from here, ends as the whole run does.
use Rattle.std.proofs.Common.{◌-◌, length}
use Rattle.rpcwire.specs.Laws.Turns.{Going}
use Rattle.rpcwire.proofs.assembler.feed.Given as goal

abbrev pub invariant-loop-i : goal.invariant-loop-i
invariant-loop-i l = Going l.fn.state l.fn.run l.initial.buf l.buf l.s l.i

abbrev pub decreases-loop-i : goal.decreases-loop-i
decreases-loop-i l = length l.fn.run - l.i
