use native.Mathlib.Omega.{arith}
use Rattle.xdr.specs.Laws.Words.{words-at, words-over}
use Rattle.xdr.proofs.piece.words_inside.Goals as goal

pub returns-then-x-src : goal.returns-then-x-src
returns-then-x-src c = words-at _ _ (omega arith)

pub returns-else-x-src : goal.returns-else-x-src
returns-else-x-src c = words-over _ _ (omega arith)
