use Rattle.std.specs.Io.KnownBytes.{Keeps}
use Rattle.stdio.proofs.input.wait_and_read.Given as goal

-- nothing was taken yet
abbrev pub invariant-loop : goal.invariant-loop
invariant-loop g l = Keeps (g.R.Read.remaining l.fn.from) (g.R.Read.remaining l.from)
