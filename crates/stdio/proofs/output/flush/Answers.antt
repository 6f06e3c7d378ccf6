use Rattle.std.proofs.Common.{ap, not}
use Rattle.stdio.specs.Laws.{flushed-lost, flushed-now}
use Rattle.stdio.proofs.output.flush.Goals as goal

pub returns-then-at-clause-flushed : goal.returns-then-at-clause-flushed
returns-then-at-clause-flushed g c = record { is = flushed-lost _ _ c.if-at.true; idle = λ e z. e }

pub returns-clause-flushed : goal.returns-clause-flushed
returns-clause-flushed g c = record { is = flushed-now _ _ c.if-at.false; idle = λ e z. ap not (c.write_front.ensures.none z) }
