use Rattle.std.proofs.Common.{sym, arith}
use Rattle.text.specs.HexLaws.{below_0, to_9, below_A, to_F, below_a, to_f, past_f}
use Rattle.text.proofs.hex.value.Goals as goal

pub returns-in-48-to-57-clause-some : goal.returns-in-48-to-57-clause-some
returns-in-48-to-57-clause-some c = (to_9 _ (omega arith) (omega arith), omega arith)

pub returns-in-65-to-70-clause-some : goal.returns-in-65-to-70-clause-some
returns-in-65-to-70-clause-some c = (to_F _ (omega arith) (omega arith), omega arith)

pub returns-in-97-to-102-clause-some : goal.returns-in-97-to-102-clause-some
returns-in-97-to-102-clause-some c = (to_f _ (omega arith) (omega arith), omega arith)

pub returns-in_default-clause-none : goal.returns-in_default-clause-none
returns-in_default-clause-none c = λ e. sym (below_0 _ (omega arith))

pub returns-in_default-2-clause-none : goal.returns-in_default-2-clause-none
returns-in_default-2-clause-none c = λ e. sym (below_A _ (omega arith) (omega arith))

pub returns-in_default-3-clause-none : goal.returns-in_default-3-clause-none
returns-in_default-3-clause-none c = λ e. sym (below_a _ (omega arith) (omega arith))

pub returns-in_default-4-clause-none : goal.returns-in_default-4-clause-none
returns-in_default-4-clause-none c = λ e. sym (past_f _ (omega arith))
