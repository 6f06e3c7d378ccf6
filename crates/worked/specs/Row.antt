-- What a worked case says (docs/SCOPE.md, Worked bytes).
-- Assumes nothing.
use Rattle.std.specs.Prelude.{◌≡◌, List, [], ◌∷◌, ℕ}
use Rattle.xdr.specs.Meaning.Answer.{Answer, took, refused, opened}
use Rattle.xdr.specs.Meaning.Format.{Format}
use Rattle.xdr.specs.Meaning.Public.{output}
use Rattle.rpcwire.specs.Meaning.Stream.{Now, fresh, feed_of}

-- the bytes that what was read is written as; none for a refusal
abbrev pub rewritten : {M S : Type 0} → Format M S → Answer M → List ℕ
rewritten F (took m n b) = F.codec.kind.write m
rewritten F (refused r) = []

pub data Row : Type 1 where
  -- bytes read from place 0: the answer, and the rewriting
  reading : {M S : Type 0} → Format M S → List ℕ → Answer M → List ℕ → Row
  -- bytes read from a place on: the answer with what the code holds, so with the places of its pieces in the whole message
  holding : {M S : Type 0} → Format M S → List ℕ → ℕ → Answer S → Row
  -- a value without pieces, and the bytes that it is written as
  writing : {M S : Type 0} → Format M S → S → List ℕ → Row
  -- a stream fed to a fresh assembler of a capacity with a record buffer: where it then stands
  feeding : ℕ → List ℕ → List ℕ → Now → Row

abbrev pub Right : Row → Type 0
Right (reading F s a w) = (opened s 0 (F.codec.kind.read s 0) ≡ a) × (rewritten F a ≡ w)
Right (holding F s p a) = opened s p (F.held.read s p) ≡ a
Right (writing F x w) = output F [] x ≡ w
Right (feeding c run d n) = feed_of (fresh c) run d ≡ n

abbrev pub All : List Row → Type 0
All [] = Unit {0}
All (r ∷ rows) = Right r × All rows
