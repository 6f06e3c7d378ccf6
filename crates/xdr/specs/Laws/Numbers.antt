-- The numbers of a closed enumeration, by what a match told: each law is in the shape of the goal of `number` or of `of`.
-- Assumes nothing.
use Rattle.std.specs.Prelude.{◌≡◌, refl, List, [], ◌∷◌, ℕ}
use Rattle.std.proofs.Common.{ne_eqb}
use Rattle.xdr.specs.Meaning.Combinators.{Seen, undeclared, among}

-- a value's number, where the value was told
pub numbered : {A : Type 0} (number : A → ℕ) (n : ℕ) (a b : A) → a ≡ b → n ≡ number b → n ≡ number a
numbered number n a b e f = rw e f

-- what a number is found to be, where the number was told
module _ {A : Type 0} (number : A → ℕ) where
  pub found_at : (l : List A) (v n : ℕ) (y : Seen A) → v ≡ n → y ≡ among number l n → y ≡ among number l v
  found_at l v n y e f = rw e f

  -- it is none of the numbers of l, as a match says it of its rest
  abbrev pub Others : ℕ → Type 0 → List A → Type 0
  Others v T [] = T
  Others v T (a ∷ l) = Others v (T × (v ≡ number a → ⊥)) l

  others-first : (l : List A) (v : ℕ) (T : Type 0) → Others v T l → T
  others-first [] v T o = o
  others-first (a ∷ l) v T o = (others-first l v (T × (v ≡ number a → ⊥)) o).0

  pub found_none : (l : List A) (v : ℕ) (T : Type 0) → Others v T l → undeclared ≡ among number l v
  found_none [] v T o = refl
  found_none (a ∷ l) v T o =
      let U = T × (v ≡ number a → ⊥) in rw (ne_eqb v (number a) (others-first l v U o).1) (found_none l v U o)
