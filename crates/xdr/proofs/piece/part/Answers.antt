use native.Mathlib.Omega.{arith}
use Rattle.xdr.specs.Laws.Pieces.{handed-yes, handed-no}
use Rattle.xdr.specs.Laws.LayPieces.{piece-told, piece-off}
use Rattle.xdr.proofs.piece.part.Goals as goal

pub returns-then-not-inside : goal.returns-then-not-inside
returns-then-not-inside c = handed-no _ _ _ (piece-off _ _ c.inside.ensures c.if-not-inside.true)

pub overflow_add-end : goal.overflow_add-end
overflow_add-end c = omega (arith, piece-told _ _ c.inside.ensures c.if-not-inside.false)

pub slice_bounds-result-end-2 : goal.slice_bounds-result-end-2
slice_bounds-result-end-2 c = omega (arith, piece-told _ _ c.inside.ensures c.if-not-inside.false)

pub returns : goal.returns
returns c = handed-yes _ _ _ (piece-told _ _ c.inside.ensures c.if-not-inside.false)
