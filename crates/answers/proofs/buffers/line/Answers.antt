use Rattle.std.proofs.Common.{ℕ, sym}
use lib.ListN.{length-replicate}
use Rattle.answers.proofs.buffers.line.Goals as goal

pub returns : goal.returns
returns c = sym (length-replicate {0} {A = ℕ} 2200000 0)
