use Rattle.std.specs.Io.KnownBytes.{Keeps}
use Rattle.stdio.proofs.output.write_some.Given as goal

-- nothing is written yet
abbrev pub invariant-loop : goal.invariant-loop
invariant-loop g l = Keeps (g.W.Write.contents l.fn.to) (g.W.Write.contents l.to)
