use native.Mathlib.Omega.{arith}
use Rattle.xdr.specs.Laws.Pieces.{inside-at, inside-over}
use Rattle.xdr.proofs.piece.inside.Goals as goal

pub returns-then-x-src : goal.returns-then-x-src
returns-then-x-src c = inside-at _ _ (omega arith)

pub returns-else-x-src : goal.returns-else-x-src
returns-else-x-src c = inside-over _ _ (omega arith)
