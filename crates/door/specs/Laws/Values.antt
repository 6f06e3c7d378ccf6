-- What the proofs of the exported readers of values cite.
-- Assumes nothing.
use Rattle.std.specs.Prelude.{◌≡◌, refl, Bool, cond, List, [], ◌∷◌, ℕ, ◌+◌, ◌≤◌, ◌<◌, length}
use Rattle.std.proofs.Common.{sym, ◌∙◌, arith}
use Rattle.xdr.specs.Meaning.Answer.{Answer}
use Rattle.xdr.specs.Meaning.Pieces.{is_inside}
use Rattle.xdr.specs.declared.piece.Piece.{Piece}
use Rattle.door.specs.Meaning.Figures.{Shown, Padded}
use Rattle.door.specs.Meaning.Values.{read_code, read_figures, ValueCalled, piece_figures, PartCalled}
use Rattle.door.specs.Laws.Figures.{at-case, shown_case, made_as}

-- by the room, and by the case t that a reader's answer is
module _ {S R : Type 0} (view : R → Answer S) (Answered : Answer S → Type 0) (f : S → List ℕ) (k : ℕ) (i : List ℕ) where
  pub value-short : length i < 2 + k → ValueCalled Answered f k i 254 i
  value-short h = record { room = λ g. absurd (omega arith); short = λ g. (refl, refl) }

  pub value-told : 2 + k ≤ length i → {c t : R} {g i' : List ℕ} {r : ℕ} → Answered (view c) → c ≡ t → Shown g i i'
      → g ≡ read_figures f k (view t) → r ≡ read_code (view t) → ValueCalled Answered f k i r i'
  value-told h a e s n m =
      record {
        room = λ _. record {
          answer = _;
          answers = a;
          number = at-case (λ z. read_code (view z)) e m;
          list = (shown_case (λ z. read_figures f k (view z)) e s n).list;
        };
        short = λ g. absurd (omega arith);
      }

-- by whether a piece lies inside
module _ (s : List ℕ) (x : Piece) (i : List ℕ) where
  pub part-short : length i < 2 → PartCalled s x i 254 i
  part-short h = record { room = λ g. absurd (omega arith); short = λ g. (refl, refl) }

  pub part-told : 2 ≤ length i → {b t : Bool} {g i' : List ℕ} {r : ℕ} → b ≡ is_inside s x → b ≡ t → Shown g i i'
      → g ≡ cond t (piece_figures x) (0 ∷ 0 ∷ []) → r ≡ cond t 0 4 → PartCalled s x i r i'
  part-told h {t = t} e d s' n m =
      let q : is_inside s x ≡ t = sym e ∙ d in
      record {
        room = λ _. (at-case (λ b. cond b 0 4) q m, (shown_case (λ b. cond b (piece_figures x) (0 ∷ 0 ∷ [])) q s' n).list);
        short = λ g. absurd (omega arith);
      }

-- a call's figures, by what the numbers in them are
pub call-made : {r i i' : List ℕ} {n p p' x a b c d u u' s t v v' y z : ℕ} → Padded r 0 i i'
    → r ≡ n ∷ p ∷ x ∷ 0 ∷ a ∷ b ∷ c ∷ d ∷ u ∷ s ∷ t ∷ v ∷ y ∷ z ∷ [] → p ≡ p' → u ≡ u' → v ≡ v'
    → Shown (n ∷ p' ∷ x ∷ 0 ∷ a ∷ b ∷ c ∷ d ∷ u' ∷ s ∷ t ∷ v' ∷ y ∷ z ∷ []) i i'
call-made k e f g h = made_as k e (rw (f, g, h))
