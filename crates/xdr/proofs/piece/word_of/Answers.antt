use borrow.Author.Rules.{rules}
use native.Mathlib.Omega.{arith}
use Rattle.std.proofs.Common.{inl, inr}
use Rattle.xdr.specs.Laws.LayPieces.{words-told, words-off}
use Rattle.xdr.specs.Laws.Words.{word_none, word-past, word_some}
use Rattle.xdr.proofs.piece.word_of.Goals as goal

pub overflow_mul-i : goal.overflow_mul-i
overflow_mul-i c = omega (arith, words-told _ _ c.words_inside.ensures c.if-words_inside.true)

pub overflow_add-x : goal.overflow_add-x
overflow_add-x c = omega (arith, words-told _ _ c.words_inside.ensures c.if-words_inside.true)

pub word_here-requires : goal.word_here-requires
word_here-requires c = omega (arith, words-told _ _ c.words_inside.ensures c.if-words_inside.true)

pub returns-then-i-x : goal.returns-then-i-x
returns-then-i-x c = word_some _ _ _ (omega arith) (words-told _ _ c.words_inside.ensures c.if-words_inside.true) (search rules)

pub returns-else-words_inside : goal.returns-else-words_inside
returns-else-words_inside c = elim c.else-words_inside.either [
  | inl h ↦ word-past _ _ _ h.1 (words-told _ _ c.words_inside.ensures h.0)
  | inr h ↦ word_none _ _ _ (words-off _ _ c.words_inside.ensures h)
]
