-- The number that bytes write and the bytes of a number undo each other, for every width.
-- Assumes nothing.
use Rattle.std.specs.Prelude.{◌≡◌, refl, List, [], ◌∷◌, ◌++◌, ℕ, zero, suc, ◌+◌, ◌*◌, ◌^◌, ◌-◌, ◌/◌, ◌%◌, ◌<◌, ◌≤◌, length, take, drop}
use Rattle.std.proofs.Common.{sym, ap, ap₂, ◌∙◌, mod-lt, div-add-mod', div-lt_iff_lt-mul, add-suc, add-zero, add_comm, add_assoc, mod-eq_of_lt, arith, pow-add, add-one, length-drop, drop-cons, length-take-le}
use Rattle.std.proofs.Math.Nat.{pow-succ', div-div-eq-div-mul}
use Rattle.std.proofs.Math.Arith.{digits_lt, digits_div, digits_mod, mod-mul}
use Rattle.xdr.specs.Meaning.Bytes.{Bytes, value, digits, number_at}

pow_pos : (k : ℕ) → 0 < 256 ^ k
pow_pos zero = omega arith
pow_pos (suc k) = let h : 0 < 256 ^ k = pow_pos k in rw pow-succ' (omega arith)

pub length_digits : (k n : ℕ) → length (digits k n) ≡ k
length_digits zero n = refl
length_digits (suc k) n = ap suc (length_digits k (n % 256 ^ k))

pub value-lt : (l : List ℕ) → Bytes l → value l < 256 ^ length l
value-lt [] h = omega arith
value-lt (x ∷ l) h = rw pow-succ' (digits_lt h.0 (value-lt l h.1))

pub digits-bytes : (k n : ℕ) → n < 256 ^ k → Bytes (digits k n)
digits-bytes zero n h = tt
digits-bytes (suc k) n h =
    ((div-lt_iff_lt-mul (pow_pos k)).1 (rw pow-succ' at h), digits-bytes k (n % 256 ^ k) (mod-lt n (pow_pos k)))

pub value-digits : (k n : ℕ) → n < 256 ^ k → value (digits k n) ≡ n
value-digits zero n h = omega arith
value-digits (suc k) n h =
    simp (length_digits k (n % 256 ^ k), value-digits k (n % 256 ^ k) (mod-lt n (pow_pos k))) (div-add-mod' n (256 ^ k))

pub digits_value : (l : List ℕ) → Bytes l → digits (length l) (value l) ≡ l
digits_value [] h = refl
digits_value (x ∷ l) h =
    let v : value l < 256 ^ length l = value-lt l h.1 in
    simp (digits_div x v, digits_mod x v, digits_value l h.1)

-- the digits of a number in two parts
split : (j k n : ℕ) → (n % 256 ^ (k + j) / 256 ^ k ≡ n / 256 ^ k % 256 ^ j) × (n % 256 ^ (k + j) % 256 ^ k ≡ n % 256 ^ k)
split j k n =
    let e : n % 256 ^ (k + j) ≡ n / 256 ^ k % 256 ^ j * 256 ^ k + n % 256 ^ k =
    ap (λ m. n % m) (ap (λ m. 256 ^ m) (add_comm k j) ∙ pow-add 256 j k) ∙ mod-mul n (pow_pos j) (pow_pos k) in
    let h : n % 256 ^ k < 256 ^ k = mod-lt n (pow_pos k) in (
      ap (λ m. m / 256 ^ k) e ∙ digits_div (n / 256 ^ k % 256 ^ j) h,
      ap (λ m. m % 256 ^ k) e ∙ digits_mod (n / 256 ^ k % 256 ^ j) h,
    )

pub digits_append : (j k n : ℕ) → n < 256 ^ (k + j) → digits j (n / 256 ^ k) ++ digits k (n % 256 ^ k) ≡ digits (k + j) n
digits_append zero k n h = rw (mod-eq_of_lt (rw (add-zero k) at h), add-zero k)
digits_append (suc j) k n h =
    let e = split j k n in
    let d : n / 256 ^ k / 256 ^ j ≡ n / 256 ^ (k + j) = div-div-eq-div-mul n (256 ^ k) (256 ^ j) ∙ ap (λ m. n / m) (sym (pow-add 256 k j)) in
    rw (add-suc k j)
    (ap₂ (λ x l. x ∷ l) d (ap₂ (λ a b. digits j a ++ digits k b) (sym e.0) (sym e.1) ∙ digits_append j k (n % 256 ^ (k + j)) (mod-lt n (pow_pos (k + j)))))

-- a number of eight bytes is two of four
pub number-halves : (s : List ℕ) (p : ℕ) → number_at 4 s p * 4294967296 + number_at 4 s (p + 4) ≡ number_at 8 s p
number-halves s p = simp add_assoc (omega arith)

-- the bytes of a source from a place on, as a number
pub value-at : (k : ℕ) (s : List ℕ) (p : ℕ) → k ≤ length s - p → value (take k (drop p s)) ≡ number_at k s p
value-at zero s p h = refl
value-at (suc k) s p h =
    let more : k ≤ length s - suc p = omega arith in
    let size : length (take k (drop (suc p) s)) ≡ k = length-take-le k (drop (suc p) s) (rw (length-drop (suc p) s) more) in
    let rest : value (take k (drop (suc p) s)) ≡ number_at k s (suc p) = value-at k s (suc p) more in
    rw (drop-cons s p 0 (omega arith)) (simp (size, rest, add-one))
