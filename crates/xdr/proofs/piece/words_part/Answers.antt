use native.Mathlib.Omega.{arith}
use Rattle.xdr.specs.Laws.Words.{words-handed-yes, words-handed-no}
use Rattle.xdr.specs.Laws.LayPieces.{words-told, words-off}
use Rattle.xdr.proofs.piece.words_part.Goals as goal

pub returns-then-not-words_inside : goal.returns-then-not-words_inside
returns-then-not-words_inside c = words-handed-no _ _ _ (words-off _ _ c.words_inside.ensures c.if-not-words_inside.true)

pub overflow_mul-end : goal.overflow_mul-end
overflow_mul-end c = omega (arith, words-told _ _ c.words_inside.ensures c.if-not-words_inside.false)

pub overflow_add-end : goal.overflow_add-end
overflow_add-end c = omega (arith, words-told _ _ c.words_inside.ensures c.if-not-words_inside.false)

pub slice_bounds-result-end-2 : goal.slice_bounds-result-end-2
slice_bounds-result-end-2 c = omega (arith, words-told _ _ c.words_inside.ensures c.if-not-words_inside.false)

pub returns : goal.returns
returns c = words-handed-yes _ _ _ (words-told _ _ c.words_inside.ensures c.if-not-words_inside.false)
