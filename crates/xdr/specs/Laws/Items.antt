-- The views by which the items are defined are faithful.
-- Assumes nothing.
use Rattle.std.specs.Prelude.{◌≡◌, refl, Bool, true, false, cond, List, [], ◌∷◌, ℕ, zero, suc, ◌+◌, ◌-◌, ◌^◌, ◌<◌, ◌≤◌, ltb, eqb, ℤ, pos, negsuc, length, replicate}
use Rattle.std.proofs.Common.{ap, arith, eqb-true, lt-ltb, le-ltb, ltb-true, ltb-false}
use Rattle.std.proofs.lemmas.List.{length-replicate}
use Rattle.xdr.specs.Meaning.Bytes.{Bytes, value, digits, zeros, signed, unsigned, InHalf}
use Rattle.xdr.specs.Meaning.Answer.{Way, dirty_pad}
use Rattle.xdr.specs.Meaning.Combinators.{Raw, means}
use Rattle.xdr.specs.Laws.Marks.{and_left, and_right}
use Rattle.xdr.specs.Laws.Digits.{value-lt, digits-bytes, value-digits, digits_value, length_digits}

module _ (k : ℕ) where
  pub number-faithful : (l : List ℕ) → Raw k l → (value l < 256 ^ k) × (◌≡◌ {A = List Way} [] [] → digits k (value l) ≡ l)
  number-faithful l g = (rw (← g.size) (value-lt l g.bytes), λ e. rw (← g.size) (digits_value l g.bytes))

  pub number-to-good : (n : ℕ) → n < 256 ^ k → Raw k (digits k n)
  number-to-good n g = record { size = length_digits k n; bytes = digits-bytes k n g }

  pub number-see-to : (n : ℕ) → n < 256 ^ k → means (value (digits k n)) [] ≡ means n []
  number-see-to n g = ap (λ (x : ℕ). means x []) (value-digits k n g)

pub one-fits : 1 < 4294967296
one-fits = omega arith

-- two's complement, for every width
module _ (h : ℕ) where
  signed_by : (n : ℕ) → n < h + h → (t : Bool) → ltb n h ≡ t
      → InHalf h (cond t (pos n) (negsuc (h + h - suc n))) × (unsigned h (cond t (pos n) (negsuc (h + h - suc n))) ≡ n)
  signed_by n g true e = (ltb-true n h e, refl)
  signed_by n g false e = let k : h ≤ n = ltb-false n h e in (omega arith, omega arith)

  pub signed-faithful : (w : ℕ) → h + h ≡ w → (n : ℕ) → n < w → InHalf h (signed h n) × (◌≡◌ {A = List Way} [] [] → unsigned h (signed h n) ≡ n)
  signed-faithful w e n g = let r = signed_by n (omega arith) (ltb n h) refl in (r.0, λ z. r.1)

  pub signed-to-good : (w : ℕ) → h + h ≡ w → (z : ℤ) → InHalf h z → unsigned h z < w
  signed-to-good w e (pos n) g = omega arith
  signed-to-good w e (negsuc n) g = omega arith

  pub signed-see-to : (z : ℤ) → InHalf h z → means (signed h (unsigned h z)) [] ≡ means z []
  signed-see-to (pos n) g = simp (lt-ltb n h g)
  signed-see-to (negsuc n) g =
      let k : h ≤ h + h - suc n = omega arith in
      let e : h + h - suc (h + h - suc n) ≡ n = omega arith in
      simp (le-ltb (h + h - suc n) h k, e)

-- eight bytes and the number that they write
pub eight-faithful : (n : ℕ) → n < 256 ^ 8 → Raw 8 (digits 8 n) × (◌≡◌ {A = List Way} [] [] → value (digits 8 n) ≡ n)
eight-faithful n g = (record { size = length_digits 8 n; bytes = digits-bytes 8 n g }, λ e. value-digits 8 n g)

pub eight-to-good : (l : List ℕ) → Raw 8 l → value l < 256 ^ 8
eight-to-good l g = (number-faithful 8 l g).0

pub eight-see-to : (l : List ℕ) → Raw 8 l → means (digits 8 (value l)) [] ≡ means l []
eight-see-to l g = ap (λ x. means x []) ((number-faithful 8 l g).1 refl)

-- padding
pub zeros-replicate : (l : List ℕ) → zeros l ≡ true → replicate (length l) 0 ≡ l
zeros-replicate [] h = refl
zeros-replicate (x ∷ l) h =
    simp (eqb-true x 0 (and_left (eqb x 0) (zeros l) h), zeros-replicate l (and_right (eqb x 0) (zeros l) h))

pub replicate-zeros : (k : ℕ) → zeros (replicate k 0) ≡ true
replicate-zeros zero = refl
replicate-zeros (suc k) = replicate-zeros k

replicate-bytes : (k : ℕ) → Bytes (replicate k 0)
replicate-bytes zero = tt
replicate-bytes (suc k) = (omega arith, replicate-bytes k)

module _ (k : ℕ) where
  pad-by : (l : List ℕ) → length l ≡ k → (t : Bool) → zeros l ≡ t → cond t [] (dirty_pad ∷ []) ≡ [] → replicate k 0 ≡ l
  pad-by l size true h e = rw (← size) (zeros-replicate l h)
  pad-by l size false h e = let z : ◌≡◌ {A = ℕ} 0 1 = cc in absurd (omega arith)

  pub pad-faithful : (l : List ℕ) → Raw k l → Unit {0} × (cond (zeros l) [] (dirty_pad ∷ []) ≡ [] → replicate k 0 ≡ l)
  pad-faithful l g = (tt, pad-by l g.size (zeros l) refl)

  pub pad-to-good : (u : Unit {0}) → Unit {0} → Raw k (replicate k 0)
  pad-to-good u g = record { size = length-replicate k 0; bytes = replicate-bytes k }

  pub pad-see-to : (u : Unit {0}) → Unit {0} → means tt (cond (zeros (replicate k 0)) [] (dirty_pad ∷ [])) ≡ means u []
  pad-see-to u g = simp (replicate-zeros k)

-- opaque bytes
pub opaque-faithful : (x : (n : ℕ) × (List ℕ × Unit {0})) → (x.0 < 256 ^ 4) × (Raw x.0 x.1.0 × Unit {0})
    → ((length x.1.0 < 256 ^ 4) × Bytes x.1.0) × (◌≡◌ {A = List Way} [] [] → (length x.1.0, (x.1.0, tt)) ≡ x)
opaque-faithful x g = ((rw g.1.0.size g.0, g.1.0.bytes), λ e. ap (λ n. (n, x.1)) g.1.0.size)

pub opaque-to-good : (l : List ℕ) → (length l < 256 ^ 4) × Bytes l → (length l < 256 ^ 4) × (Raw (length l) l × Unit {0})
opaque-to-good l g = (g.0, (record { size = refl; bytes = g.1 }, tt))
