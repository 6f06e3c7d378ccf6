-- What reading an item is to code: a test of the room, and numbers by their places.
-- Assumes nothing.
use Rattle.std.specs.Prelude.{◌≡◌, Bool, cond, ◌&&◌, List, [], ◌∷◌, leb, take, drop}
use Rattle.std.proofs.Math.Path.{refl}
use Rattle.std.proofs.Math.Bool.{true, false}
use Prim.Native.Nat.{ℕ, ◌+◌, ◌-◌, ◌≤◌, ◌<◌}
use native.Mathlib.Omega.{arith}
use Rattle.std.proofs.Math.ListN.{length}
use borrow.Author.Tests.{leb-true, leb-false, le-leb, lt-leb}
use Rattle.xdr.specs.Meaning.Bytes.{number_at, padding, zeros}
use Rattle.xdr.specs.Meaning.Refusal.{cut_short}
use Rattle.xdr.specs.Meaning.Answer.{Answer, took, refused, dirty_pad, clean}
use Rattle.xdr.specs.Meaning.Items.{number, word, opaque}
use Rattle.xdr.specs.Laws.Digits.{value-at}

abbrev pub number_answer : ℕ → List ℕ → ℕ → Answer ℕ
number_answer k s p = cond (leb k (length s - p)) (took (number_at k s p) (p + k) true) (refused (cut_short k s p))

pub number_read : (k : ℕ) (s : List ℕ) (p : ℕ) → (number k).kind.read s p ≡ number_answer k s p
unfolding number
number_read k s p = go (leb k (length s - p)) refl
  where
    go : (t : Bool) → leb k (length s - p) ≡ t → (number k).kind.read s p ≡ cond t (took (number_at k s p) (p + k) true) (refused (cut_short k s p))
    go true e = simp (e, value-at k s p (leb-true k (length s - p) e))
    go false e = simp e

-- whether padding is clean is whether it is zero
clean-zeros : (b : Bool) → (clean (cond b [] (dirty_pad ∷ [])) && true) ≡ b
clean-zeros true = refl
clean-zeros false = refl

-- opaque bytes: room for their number, and for them with their padding
abbrev pub opaque_answer : List ℕ → ℕ → ℕ → Answer (List ℕ)
opaque_answer s p n =
    cond (leb (4 + n + padding n) (length s - p))
    (took (take n (drop (p + 4) s)) (p + 4 + n + padding n) (zeros (take (padding n) (drop (p + 4 + n) s))))
    (refused (cut_short (4 + n + padding n) s p))

abbrev pub opaque_at : List ℕ → ℕ → Answer (List ℕ)
opaque_at s p = cond (leb 4 (length s - p)) (opaque_answer s p (number_at 4 s p)) (refused (cut_short 4 s p))

module _ (s : List ℕ) (p : ℕ) where
  word_cut : length s - p < 4 → word.kind.read s p ≡ refused (cut_short 4 s p)
  unfolding word number
  word_cut h = rw (number_read 4 s p, lt-leb 4 (length s - p) h)

  word-whole : 4 ≤ length s - p → word.kind.read s p ≡ took (number_at 4 s p) (p + 4) true
  unfolding word number
  word-whole h = rw (number_read 4 s p, le-leb 4 (length s - p) h)

  module _ (n : ℕ) (w : word.kind.read s p ≡ took n (p + 4) true) (h : 4 ≤ length s - p) where
    opaque-counted : (t : Bool) → leb (n + padding n) (length s - (p + 4)) ≡ t → opaque.kind.read s p ≡ opaque_answer s p n
    unfolding opaque
    opaque-counted true e =
        let l : n + padding n ≤ length s - (p + 4) = leb-true (n + padding n) (length s - (p + 4)) e in
        let i : n ≤ length s - (p + 4) = omega arith in
        let j : padding n ≤ length s - (p + 4 + n) = omega arith in
        rw (
          w,
          e,
          le-leb n (length s - (p + 4)) i,
          le-leb (padding n) (length s - (p + 4 + n)) j,
          le-leb (4 + n + padding n) (length s - p) (omega arith),
          clean-zeros,
        )
    opaque-counted false e =
        let l : length s - (p + 4) < n + padding n = leb-false (n + padding n) (length s - (p + 4)) e in
        let i : n + padding n - (length s - (p + 4)) ≡ 4 + n + padding n - (length s - p) = omega arith in
        rw (w, e, lt-leb (4 + n + padding n) (length s - p) (omega arith), i)

  opaque-tested : (t : Bool) → leb 4 (length s - p) ≡ t → opaque.kind.read s p ≡ cond t (opaque_answer s p (number_at 4 s p)) (refused (cut_short 4 s p))
  unfolding opaque
  opaque-tested true e =
      let n : ℕ = number_at 4 s p in
      let h : 4 ≤ length s - p = leb-true 4 (length s - p) e in
      opaque-counted n (word-whole h) h (leb (n + padding n) (length s - (p + 4))) refl
  opaque-tested false e = rw (word_cut (leb-false 4 (length s - p) e))

  pub opaque-read : opaque.kind.read s p ≡ opaque_at s p
  opaque-read = opaque-tested (leb 4 (length s - p)) refl
