-- A closed enumeration, by its word: read, and written.
-- Assumes nothing.
use Rattle.std.specs.Prelude.{◌≡◌, Bool, ℕ}
use Rattle.std.proofs.Common.{sym, ap, subst, ◌∙◌}
use mathlib.Core.List.{List, []}
use Rattle.xdr.specs.Meaning.Answer.{took, refused, Written, done, unwritten}
use Rattle.xdr.specs.Meaning.Items.{word, closed}
use Rattle.xdr.specs.Meaning.Combinators.{Seen, means, undeclared, among}
use Rattle.xdr.specs.Meaning.Format.{exactly}
use Rattle.xdr.specs.Meaning.Order.{placing}
use Rattle.xdr.specs.Meaning.Public.{writing, Writes}
use Rattle.xdr.specs.declared.refusal.Refusal.{Refusal}
use Rattle.xdr.specs.declared.refusal.Refusal.TheVariants.{Undeclared}

-- what a number was found to be, where that was taken apart
pub told : {R A : Type 0} (found : R → Seen A) {x : Seen A} {r t : R} → found r ≡ x → r ≡ t → x ≡ found t
told found e f = sym e ∙ ap found f

module _ {A : Type 0} (number : A → ℕ) (l : List A) (each : (a : A) → among number l (number a) ≡ means a []) where
  -- by its word and what the word's number is
  module _ (s : List ℕ) (p : ℕ) where
    pub closed-refused : {r : Refusal} → word.kind.read s p ≡ refused r → refused r ≡ (closed number l each).kind.read s p
    closed-refused f = rw f

    pub closed-undeclared : {v n : ℕ} {b : Bool} → word.kind.read s p ≡ took v n b → among number l v ≡ undeclared
        → refused (Undeclared p) ≡ (closed number l each).kind.read s p
    closed-undeclared f g = rw (f, g)

    pub closed-took : {v n : ℕ} {b : Bool} {a : A} → word.kind.read s p ≡ took v n b → among number l v ≡ means a []
        → took a n b ≡ (closed number l each).kind.read s p
    closed-took f g = rw (f, g)

  -- it is written as the word of its number
  pub by_number : (a : A) {v : ℕ} (at : ℕ) (o : List ℕ) {w : Written} {o' : List ℕ} → v ≡ number a → Writes (exactly word) [] v at o w o'
      → Writes (exactly (closed number l each)) [] a at o w o'
  unfolding writing placing
  by_number a at o {w} {o'} e c =
      again w (subst (λ v. Writes (exactly word) [] v at o w o') e c)
    where
      again : (w : Written) → Writes (exactly word) [] (number a) at o w o' → Writes (exactly (closed number l each)) [] a at o w o'
      again (done n) c = record { says = c.says; leaves = c.leaves; good = c.good }
      again (unwritten r) c = record { says = c.says; leaves = c.leaves; good = c.good }
