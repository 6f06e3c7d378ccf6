-- The states that fit, by their numbers.
-- Assumes nothing.
use Rattle.std.specs.Prelude.{◌≡◌, refl, Bool, true, false, ◌&&◌, ℕ, zero, suc, ◌+◌, ◌-◌, ◌*◌, ◌^◌, ◌≤◌, ◌<◌, leb, ltb, eqb}
use Rattle.std.proofs.Math.Bool.{and-false, and-true}
use Rattle.std.proofs.Common.{arith}
use borrow.Author.Tests.{lt-ltb, le-ltb, le-leb, lt-leb, eq-eqb, ne_eqb, ltb-true, leb-true, eqb-true}
use Rattle.xdr.specs.Meaning.Answer.{most}
use Rattle.rpcwire.specs.Meaning.Stream.{in_header, in_fragment, halted, flags_fit, fits_of}
use Rattle.rpcwire.specs.declared.assembler.Assembler.{Assembler}

and_left : (a b : Bool) → a && b ≡ true → a ≡ true
and_left true b h = refl
and_left false b h = h

and_right : (a b : Bool) → a && b ≡ true → b ≡ true
and_right true b h = h
and_right false true h = refl
and_right false false h = h

all-seven : (a b c d e f g : Bool) → a && b && c && d && e && f && g ≡ true
    → (a ≡ true) × (b ≡ true) × (c ≡ true) × (d ≡ true) × (e ≡ true) × (f ≡ true) × (g ≡ true)
all-seven a b c d e f g t7 =
    let t6 = and_left (a && b && c && d && e && f) g t7 in
    let t5 = and_left (a && b && c && d && e) f t6 in
    let t4 = and_left (a && b && c && d) e t5 in
    let t3 = and_left (a && b && c) d t4 in
    let t2 = and_left (a && b) c t3 in
    let t1 = and_left (a) b t2 in
    (t1, and_right (a) b t2, and_right (a && b) c t3, and_right (a && b && c) d t4, and_right (a && b && c && d) e t5, and_right (a && b && c && d && e) f t6, and_right (a && b && c && d && e && f) g t7)

-- the numbers of a state that fits a buffer of n bytes
pub record Fit (s : Assembler) (n : ℕ) : Type 0 where
  pub whole : s.capacity ≡ n
  pub small : s.capacity ≤ most
  pub room : s.placed ≤ s.capacity
  pub within : s.left ≤ s.capacity - s.placed
  pub few : s.header_count ≤ 3
  pub value : s.header_value < 256 ^ s.header_count
  pub flags : flags_fit s.left s.header_count s.last s.stopped ≡ true

pub fit : (s : Assembler) (n : ℕ) → fits_of s n ≡ true → Fit s n
unfolding fits_of
fit s n h =
    let k =
    all-seven (eqb s.capacity n) (leb s.capacity most) (leb s.placed s.capacity) (leb s.left (s.capacity - s.placed))
    (leb s.header_count 3) (ltb s.header_value (256 ^ s.header_count)) (flags_fit s.left s.header_count s.last s.stopped) h in
    record {
      whole = eqb-true _ _ k.0;
      small = leb-true _ _ k.1;
      room = leb-true _ _ k.2;
      within = leb-true _ _ k.3;
      few = leb-true _ _ k.4;
      value = ltb-true _ _ k.5;
      flags = k.6;
    }

pub fits-header : (c p k v n : ℕ) → c ≡ n → c ≤ most → p ≤ c → k ≤ 3 → v < 256 ^ k → fits_of (in_header c p k v) n ≡ true
unfolding fits_of
fits-header c p k v n h1 h2 h3 h4 h5 = simp (eq-eqb c n h1, le-leb c most h2, le-leb p c h3, le-leb 0 (c - p) (omega arith), le-leb k 3 h4, lt-ltb v (256 ^ k) h5)

pub fits-fragment : (c p l : ℕ) (e : Bool) (n : ℕ) → c ≡ n → c ≤ most → p ≤ c → l ≤ c - p → 0 < l → fits_of (in_fragment c p l e) n ≡ true
unfolding fits_of
fits-fragment c p l true n h1 h2 h3 h4 h5 = simp (eq-eqb c n h1, le-leb c most h2, le-leb p c h3, le-leb l (c - p) h4, lt-ltb 0 l h5, ne_eqb l 0 (omega arith))
fits-fragment c p l false n h1 h2 h3 h4 h5 = simp (eq-eqb c n h1, le-leb c most h2, le-leb p c h3, le-leb l (c - p) h4, ne_eqb l 0 (omega arith))

pub fits-halted : (c p n : ℕ) → c ≡ n → c ≤ most → p ≤ c → fits_of (halted c p) n ≡ true
unfolding fits_of
fits-halted c p n h1 h2 h3 = simp (eq-eqb c n h1, le-leb c most h2, le-leb p c h3, le-leb 0 (c - p) (omega arith))

-- a header's value with one byte more
pub more-value : (k v b : ℕ) → k < 3 → v < 256 ^ k → b < 256 → v * 256 + b < 256 ^ (k + 1)
more-value zero v b h1 h2 h3 = omega arith
more-value (suc zero) v b h1 h2 h3 = omega arith
more-value (suc (suc zero)) v b h1 h2 h3 = omega arith
more-value (suc (suc (suc k))) v b h1 h2 h3 = absurd (omega arith)

pub flags-on : (left count : ℕ) (last stopped : Bool) → 0 < left → stopped ≡ false → eqb count 0 ≡ flags_fit left count last stopped
flags-on left count true stopped h k = simp (ne_eqb left 0 (omega arith), lt-ltb 0 left h, k, and-true)
flags-on left count false stopped h k = simp (ne_eqb left 0 (omega arith), k, and-true)

-- one test that fails is enough for a misfit
module _ (s : Assembler) (n : ℕ) where
  pub misfit-whole : (s.capacity ≡ n → ⊥) → false ≡ fits_of s n
  unfolding fits_of
  misfit-whole h = simp (ne_eqb s.capacity n h)

  pub misfit-small : most < s.capacity → false ≡ fits_of s n
  unfolding fits_of
  misfit-small h = simp (lt-leb s.capacity most h, and-false)

  pub misfit-room : s.capacity < s.placed → false ≡ fits_of s n
  unfolding fits_of
  misfit-room h = simp (lt-leb s.placed s.capacity h, and-false)

  pub misfit-within : s.capacity - s.placed < s.left → false ≡ fits_of s n
  unfolding fits_of
  misfit-within h = simp (lt-leb s.left (s.capacity - s.placed) h, and-false)

  pub misfit-few : 3 < s.header_count → false ≡ fits_of s n
  unfolding fits_of
  misfit-few h = simp (lt-leb s.header_count 3 h, and-false)

  pub misfit-value : 256 ^ s.header_count ≤ s.header_value → false ≡ fits_of s n
  unfolding fits_of
  misfit-value h = simp (le-ltb s.header_value (256 ^ s.header_count) h, and-false)

  -- all but the flags
  pub fits-flags : s.capacity ≡ n → s.capacity ≤ most → s.placed ≤ s.capacity → s.left ≤ s.capacity - s.placed → s.header_count ≤ 3 → s.header_value < 256 ^ s.header_count
      → flags_fit s.left s.header_count s.last s.stopped ≡ fits_of s n
  unfolding fits_of
  fits-flags h1 h2 h3 h4 h5 h6 =
      simp (
        eq-eqb s.capacity n h1,
        le-leb s.capacity most h2,
        le-leb s.placed s.capacity h3,
        le-leb s.left (s.capacity - s.placed) h4,
        le-leb s.header_count 3 h5,
        lt-ltb s.header_value (256 ^ s.header_count) h6,
      )
