-- What the proofs of the exported functions about mounts and ports cite.
-- Assumes nothing.
use Rattle.std.specs.Prelude.{◌≡◌, refl, not, List, ◌∷◌, ℕ, ◌≤◌, ◌<◌, eqb, length, Bool, Result}
use Rattle.std.proofs.Math.Option.{Option}
use Rattle.std.proofs.Common.{arith}
use Rattle.xdr.specs.Meaning.Answer.{Written}
use Rattle.xdr.specs.Meaning.Format.{Format}
use Rattle.xdr.specs.Meaning.Within.{WritesWithin}
use Rattle.mount.specs.Meaning.Ask.{Said, Asks}
use Rattle.xdr.specs.declared.piece.Piece.{Piece}
use Rattle.door.specs.Meaning.Figures.{Shown, Says}
use Rattle.door.specs.Laws.Figures.{at-case, shown_case}
use Rattle.mount.specs.Meaning.Same.{Compares}
use Rattle.xdr.specs.declared.refusal.Refusal.{Refusal}
use Rattle.door.specs.Meaning.Exports.{wrote_code, wrote_figures}
use Rattle.door.specs.Meaning.Mounting.{asked_code, asked_figures, AskCalled, WithinCalled, compared_code, compared_figures, SameCalled}

module _ (s : List ℕ) (seen : ℕ) (o i : List ℕ) where
  pub ask-short : length i < 13 → AskCalled s seen o i 254 o i
  ask-short h = record { room = λ g. absurd (omega arith); short = λ g. (refl, refl, refl) }

  pub ask-told : 13 ≤ length i → {c : Said} {r : ℕ} {o' i' : List ℕ} → Says asked_code asked_figures c i r i' → Asks s (not (eqb seen 0)) o c o'
      → AskCalled s seen o i r o' i'
  ask-told h t c =
      record {
        room = λ g. record { said = _; asks = c; number = t.number; list = t.shown.list };
        short = λ g. absurd (omega arith);
      }

module _ {M : Type 0} (F : Format M Piece) (over : M → Option ℕ) (s : List ℕ) (x : Piece) (start : ℕ) (o i : List ℕ) where
  pub within-short : length i < 1 → WithinCalled F over s x start o i 254 o i
  within-short h = record { room = λ g. absurd (omega arith); short = λ g. (refl, refl, refl) }

  pub within-told : 1 ≤ length i → {w : Written} {r : ℕ} {o' i' : List ℕ} → Says wrote_code wrote_figures w i r i' → WritesWithin F over s x start o w o'
      → WithinCalled F over s x start o i r o' i'
  within-told h t c =
      record {
        room = λ g. record { answer = _; writes = c; number = t.number; list = t.shown.list };
        short = λ g. absurd (omega arith);
      }

-- the figures of a value behind the place and the mark, by its case
pub shown-value : {A : Type 0} (f : A → List ℕ) {x t : A} {n p : ℕ} {g i i' : List ℕ} → x ≡ t → Shown g i i' → g ≡ n ∷ p ∷ f t → Shown (n ∷ p ∷ f x) i i'
shown-value f {n = n} {p = p} e s h = shown_case (λ z. n ∷ p ∷ f z) e s h

module _ (s : List ℕ) (x : Piece) (t : List ℕ) (y : Piece) (i : List ℕ) where
  pub same-short : length i < 1 → SameCalled s x t y i 254 i
  same-short h = record { room = λ g. absurd (omega arith); short = λ g. (refl, refl) }

  pub same-told : (c : Result Bool Refusal) (r : ℕ) (i' : List ℕ) → 1 ≤ length i → Says compared_code compared_figures c i r i' → Compares s x t y c → SameCalled s x t y i r i'
  same-told c r i' h u d =
      record {
        room = λ g. record { answer = c; compares = d; number = u.number; list = u.shown.list };
        short = λ g. absurd (omega arith);
      }

-- a comparison's answer, by its case
pub says-compared : {x t : Result Bool Refusal} {f i i' : List ℕ} {r : ℕ} → x ≡ t → Shown f i i' → f ≡ compared_figures t → r ≡ compared_code t → Says compared_code compared_figures x i r i'
says-compared e s h n = record { number = at-case compared_code e n; shown = shown_case compared_figures e s h }
