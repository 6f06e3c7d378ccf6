-- An opaque, held as a piece of its source.
-- Assumes nothing.
use Rattle.std.specs.Prelude.{◌≡◌, refl, Bool, cond, List, [], ◌++◌, ℕ, ◌+◌, ◌-◌, ◌≤◌, ◌<◌, leb, length, take, drop}
use Rattle.std.proofs.Math.Path.{sym}
use Rattle.std.proofs.Common.{ap, ◌∙◌, arith, length-take, length-drop, length-append}
use Rattle.std.proofs.Math.Bool.{true, false}
use Rattle.std.proofs.Math.Nat.{min-le_right}
use Rattle.std.proofs.lemmas.List.{take-append-le, drop-append-le}
use borrow.Author.Tests.{le-leb, lt-leb, leb-true, leb-false}
use Rattle.xdr.specs.Meaning.Bytes.{Bytes, number_at, padding, zeros}
use Rattle.xdr.specs.Meaning.Refusal.{cut_short}
use Rattle.xdr.specs.Meaning.Answer.{took, refused, map_answer, Taken, most}
use Rattle.xdr.specs.Meaning.Items.{number, word, opaque}
use Rattle.xdr.specs.Meaning.Pieces.{bytes_in, is_inside, part_of, part_place, Part, pad_zero, piece_at, nothing}
use Rattle.xdr.specs.Laws.Lists.{bytes_take, bytes_drop}
use Rattle.xdr.specs.Laws.Reading.{opaque-read}
use Rattle.xdr.specs.declared.piece.Piece.{Piece}

module _ (s : List ℕ) (p : ℕ) where
  agree : (t u : Bool) (n : ℕ)
      → cond t
      (cond u (took (take n (drop (p + 4) s)) (p + 4 + n + padding n) (zeros (take (padding n) (drop (p + 4 + n) s)))) (refused (cut_short (4 + n + padding n) s p)))
      (refused (cut_short 4 s p))
      ≡ map_answer (bytes_in s)
      (cond t
      (cond u (took (record { at = p + 4; count = n; clean = pad_zero s p n }) (p + 4 + n + padding n) (pad_zero s p n)) (refused (cut_short (4 + n + padding n) s p)))
      (refused (cut_short 4 s p)))
  agree true true n = refl
  agree true false n = refl
  agree false u n = refl

  keeps : (n : ℕ) (t u : Bool) → leb (4 + n + padding n) (length s - p) ≡ u
      → Taken (λ x. is_inside s x ≡ true)
      (cond t
      (cond u (took (record { at = p + 4; count = n; clean = pad_zero s p n }) (p + 4 + n + padding n) (pad_zero s p n)) (refused (cut_short (4 + n + padding n) s p)))
      (refused (cut_short 4 s p)))
  unfolding is_inside
  keeps n false u e = tt
  keeps n true false e = tt
  keeps n true true e = le-leb (p + 4 + n) (length s) (omega (arith, leb-true (4 + n + padding n) (length s - p) e))

  pub piece-agrees : opaque.kind.read s p ≡ map_answer (bytes_in s) (piece_at s p)
  piece-agrees =
      opaque-read s p
      ∙ agree (leb 4 (length s - p)) (leb (4 + number_at 4 s p + padding (number_at 4 s p)) (length s - p)) (number_at 4 s p)

  pub piece-kept : Taken (λ x. is_inside s x ≡ true) (piece_at s p)
  piece-kept = keeps (number_at 4 s p) (leb 4 (length s - p)) (leb (4 + number_at 4 s p + padding (number_at 4 s p)) (length s - p)) refl

pub nothing-inside : (s : List ℕ) → is_inside s nothing ≡ true
unfolding is_inside
nothing-inside s = le-leb 0 (length s) (omega arith)

module _ (s : List ℕ) (x : Piece) where
  pub inside-yes : x.at + x.count ≤ length s → is_inside s x ≡ true
  unfolding is_inside
  inside-yes h = le-leb (x.at + x.count) (length s) h

  pub inside-no : length s < x.at + x.count → is_inside s x ≡ false
  unfolding is_inside
  inside-no h = lt-leb (x.at + x.count) (length s) h

  pub inside-le : is_inside s x ≡ true → x.at + x.count ≤ length s
  unfolding is_inside
  inside-le h = leb-true (x.at + x.count) (length s) h

  pub inside-past : is_inside s x ≡ false → length s < x.at + x.count
  unfolding is_inside
  inside-past h = leb-false (x.at + x.count) (length s) h

  -- the code's test, which subtracts so that nothing can overflow
  pub inside-at : x.count ≤ length s → leb x.at (length s - x.count) ≡ is_inside s x
  inside-at h = at (leb x.at (length s - x.count)) refl where
    at : (b : Bool) → leb x.at (length s - x.count) ≡ b → b ≡ is_inside s x
    at true e = let k = leb-true x.at (length s - x.count) e in sym (inside-yes (omega (arith, k)))
    at false e = let k = leb-false x.at (length s - x.count) e in sym (inside-no (omega (arith, k)))

  pub inside-over : length s < x.count → leb x.count (length s) ≡ is_inside s x
  inside-over h = lt-leb x.count (length s) h ∙ sym (inside-no (omega arith))

  -- a part of a slice, as the code takes it
  pub piece-part : take (x.at + x.count - x.at) (drop x.at s) ≡ bytes_in s x
  piece-part = let e : x.at + x.count - x.at ≡ x.count = omega arith in ap (λ k. take k (drop x.at s)) e

  part-yes : x.at + x.count ≤ length s → take (x.at + x.count - x.at) (drop x.at s) ≡ part_of s x
  unfolding part_of
  part-yes h = piece-part ∙ sym (simp (inside-yes h))

  part_no : length s < x.at + x.count → [] ≡ part_of s x
  unfolding part_of
  part_no h = sym (simp (inside-no h))

  -- what is handed back is that part of the message
  place-yes : x.at + x.count ≤ length s → x.at ≡ part_place s x
  unfolding part_place
  place-yes h = sym (simp (inside-yes h))

  pub handed-yes : (q : ℕ × ℕ) → x.at + x.count ≤ length s
      → Part q (part_of s x) (part_place s x) (q.0, x.at + q.1) (take (x.at + x.count - x.at) (drop x.at s))
  handed-yes q h = record { is = part-yes h; begins = ap (λ (k : ℕ). (q.0, k)) (omega (arith, place-yes h)) }

  pub handed-no : (q : ℕ × ℕ) → length s < x.at + x.count → Part q (part_of s x) (part_place s x) q []
  unfolding part_place
  handed-no q h =
      let e : 0 ≡ part_place s x = sym (simp (inside-no h)) in
      record { is = part_no h; begins = ap (λ (k : ℕ). (q.0, k)) (omega (arith, e)) }

-- a piece inside the front of a source is the same piece of the whole
pub bytes-grow : (s t : List ℕ) (x : Piece) → is_inside s x ≡ true → bytes_in (s ++ t) x ≡ bytes_in s x
bytes-grow s t x h =
    let k : x.at + x.count ≤ length s = inside-le s x h in
    ap (take x.count) (drop-append-le x.at s t (omega arith))
    ∙ take-append-le x.count (drop x.at s) t (omega (arith, length-drop x.at s))

pub inside-grows : (s t : List ℕ) (x : Piece) → is_inside s x ≡ true → is_inside (s ++ t) x ≡ true
inside-grows s t x h =
    let k : x.at + x.count ≤ length s = inside-le s x h in
    inside-yes (s ++ t) x (omega (arith, length-append s t))

-- a piece of a source of bytes that is not too long is an opaque in range, wherever it stands
pub piece-good : (s : List ℕ) (x : Piece) → Bytes s → length s ≤ most → opaque.kind.Good (bytes_in s x)
unfolding opaque word number
piece-good s x h k = (
  omega
      (arith, length-take x.count (drop x.at s), length-drop x.at s, min-le_right x.count (length (drop x.at s)), k),
  bytes_take x.count (drop x.at s) (bytes_drop x.at s h),
)
