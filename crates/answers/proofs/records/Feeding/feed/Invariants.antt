use Rattle.std.proofs.Common.{length}
use Rattle.answers.proofs.records.Feeding.feed.Given as goal

abbrev pub decreases-loop-self : goal.decreases-loop-self
decreases-loop-self l = length l.rest
