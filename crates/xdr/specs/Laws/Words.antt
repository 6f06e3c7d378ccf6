-- A list of words, held as a piece of its source that counts words.
-- Assumes nothing.
use Rattle.std.specs.Prelude.{◌≡◌, Bool, cond, List, [], ◌∷◌, ◌++◌, leb, take, drop}
use Rattle.std.proofs.Math.Path.{refl, sym}
use Rattle.std.proofs.Common.{ap, ap₂, ◌∙◌, add-zero, zero-add, suc-add, length-drop, length-append, length-take-le, drop-drop}
use Rattle.std.proofs.Math.Bool.{true, false}
use Rattle.std.proofs.Math.Option.{none, some}
use Prim.Native.Nat.{ℕ, zero, suc, ◌+◌, ◌*◌, ◌^◌, ◌-◌, ◌/◌, ◌≤◌, ◌<◌}
use native.Mathlib.Omega.{arith}
use Rattle.std.proofs.Math.ListN.{length, get_or-append}
use borrow.Author.Tests.{le-leb, lt-leb, leb-true, leb-false}
use Rattle.xdr.specs.Meaning.Bytes.{Bytes, value, digits, number_at}
use Rattle.xdr.specs.Meaning.Refusal.{cut_short}
use Rattle.xdr.specs.Meaning.Answer.{took, refused, map_answer, Taken, most}
use Rattle.xdr.specs.Meaning.Shapes.{Tuple}
use Rattle.xdr.specs.Meaning.Codecs.{times}
use Rattle.xdr.specs.Meaning.Items.{number, word, words}
use Rattle.xdr.specs.Meaning.Pieces.{words_at, words_in, are_inside, words_part_of, words_place, Part, word_of, words_answer, word_piece_at}
use Rattle.xdr.specs.Laws.Lists.{bytes_take, bytes_drop}
use Rattle.xdr.specs.Laws.Digits.{value-lt, value-at, digits_value}
use Rattle.xdr.specs.Meaning.Shapes.{to_list, from_list}
use Rattle.xdr.specs.Laws.Reading.{number_read}
use Rattle.xdr.specs.Laws.Digits.{length_digits}
use Rattle.xdr.specs.declared.piece.Piece.{Piece}

-- n words from place q on
abbrev tuple_at : (n : ℕ) → List ℕ → ℕ → Tuple ℕ n
tuple_at zero s q = tt
tuple_at (suc n) s q = (number_at 4 s q, tuple_at n s (q + 4))

list-tuple : (n : ℕ) (s : List ℕ) (q : ℕ) → to_list ℕ n (tuple_at n s q) ≡ words_at n s q
list-tuple zero s q = refl
list-tuple (suc n) s q = ap (λ l. number_at 4 s q ∷ l) (list-tuple n s (q + 4))

word-here : (s : List ℕ) (q : ℕ) → 4 ≤ length s - q → word.kind.read s q ≡ took (number_at 4 s q) (q + 4) true
unfolding word number
word-here s q h = rw (number_read 4 s q, le-leb 4 (length s - q) h)

word-not : (s : List ℕ) (q : ℕ) → length s - q < 4 → word.kind.read s q ≡ refused (cut_short 4 s q)
unfolding word number
word-not s q h = rw (number_read 4 s q, lt-leb 4 (length s - q) h)

times-took : (n : ℕ) (s : List ℕ) (q : ℕ) → n * 4 ≤ length s - q → (times word n).kind.read s q ≡ took (tuple_at n s q) (q + n * 4) true
times-took zero s q h = rw (add-zero q)
times-took (suc n) s q h =
    let k : 4 ≤ length s - q = omega arith in
    let e : q + 4 + n * 4 ≡ q + suc n * 4 = omega arith in
    rw (word-here s q k, times-took n s (q + 4) (omega arith), e)

module _ (s : List ℕ) (p : ℕ) where
  -- whatever the mark is
  counted_any : (b : Bool) (n : ℕ) → number_at 4 s p ≡ n → 4 ≤ length s - p → (t : Bool) → leb (4 + n * 4) (length s - p) ≡ t
      → words.kind.read s p
      ≡ map_answer (words_in s) (cond t (took (record { at = p + 4; count = n; clean = b }) (p + 4 + n * 4) true) (refused (cut_short (4 + n * 4) s p)))
  unfolding words
  counted_any b n c h true e =
      let k : 4 + n * 4 ≤ length s - p = leb-true (4 + n * 4) (length s - p) e in
      rw (word-here s p h, c, le-leb (n * 4) (length s - (p + 4)) (omega arith), times-took n s (p + 4) (omega arith), list-tuple n s (p + 4))
  counted_any b n c h false e =
      let k : length s - p < 4 + n * 4 = leb-false (4 + n * 4) (length s - p) e in
      let i : n * 4 - (length s - (p + 4)) ≡ 4 + n * 4 - (length s - p) = omega arith in
      rw (word-here s p h, c, lt-leb (n * 4) (length s - (p + 4)) (omega arith), i)

  by_word : (t : Bool) → leb 4 (length s - p) ≡ t
      → words.kind.read s p ≡ map_answer (words_in s) (cond t (words_answer s p (number_at 4 s p)) (refused (cut_short 4 s p)))
  unfolding words
  by_word true e =
      counted_any _ (number_at 4 s p) refl (leb-true 4 (length s - p) e) (leb (4 + number_at 4 s p * 4) (length s - p)) refl
  by_word false e = rw (word-not s p (leb-false 4 (length s - p) e))

  pub words-agrees : words.kind.read s p ≡ map_answer (words_in s) (word_piece_at s p)
  words-agrees = by_word (leb 4 (length s - p)) refl

  keeps_any : (b : Bool) (n : ℕ) (t u : Bool) → leb (4 + n * 4) (length s - p) ≡ u
      → Taken (λ x. are_inside s x ≡ true)
      (cond t (cond u (took (record { at = p + 4; count = n; clean = b }) (p + 4 + n * 4) true) (refused (cut_short (4 + n * 4) s p))) (refused (cut_short 4 s p)))
  unfolding are_inside
  keeps_any b n false u e = tt
  keeps_any b n true false e = tt
  keeps_any b n true true e = le-leb (p + 4 + n * 4) (length s) (omega (arith, leb-true (4 + n * 4) (length s - p) e))

  pub words-kept : Taken (λ x. are_inside s x ≡ true) (word_piece_at s p)
  words-kept = keeps_any _ (number_at 4 s p) (leb 4 (length s - p)) (leb (4 + number_at 4 s p * 4) (length s - p)) refl

module _ (s : List ℕ) (x : Piece) where
  pub words-yes : x.at + x.count * 4 ≤ length s → are_inside s x ≡ true
  unfolding are_inside
  words-yes h = le-leb (x.at + x.count * 4) (length s) h

  pub words-no : length s < x.at + x.count * 4 → are_inside s x ≡ false
  unfolding are_inside
  words-no h = lt-leb (x.at + x.count * 4) (length s) h

  pub words-le : are_inside s x ≡ true → x.at + x.count * 4 ≤ length s
  unfolding are_inside
  words-le h = leb-true (x.at + x.count * 4) (length s) h

  pub words-past : are_inside s x ≡ false → length s < x.at + x.count * 4
  unfolding are_inside
  words-past h = leb-false (x.at + x.count * 4) (length s) h

  -- the code's test, which divides and subtracts so that nothing can overflow
  pub words-at : x.count ≤ length s / 4 → leb x.at (length s - x.count * 4) ≡ are_inside s x
  words-at h = at (leb x.at (length s - x.count * 4)) refl where
    at : (b : Bool) → leb x.at (length s - x.count * 4) ≡ b → b ≡ are_inside s x
    at true e = let k = leb-true x.at (length s - x.count * 4) e in sym (words-yes (omega (arith, k)))
    at false e = let k = leb-false x.at (length s - x.count * 4) e in sym (words-no (omega (arith, k)))

  pub words-over : length s / 4 < x.count → leb x.count (length s / 4) ≡ are_inside s x
  words-over h = lt-leb x.count (length s / 4) h ∙ sym (words-no (omega arith))

  -- a part of a slice, as the code takes it
  pub words-part : take (x.at + x.count * 4 - x.at) (drop x.at s) ≡ take (x.count * 4) (drop x.at s)
  words-part = let e : x.at + x.count * 4 - x.at ≡ x.count * 4 = omega arith in ap (λ k. take k (drop x.at s)) e

  words-part-yes : x.at + x.count * 4 ≤ length s → take (x.at + x.count * 4 - x.at) (drop x.at s) ≡ words_part_of s x
  unfolding words_part_of
  words-part-yes h = words-part ∙ sym (simp (words-yes h))

  words-part-no : length s < x.at + x.count * 4 → [] ≡ words_part_of s x
  unfolding words_part_of
  words-part-no h = sym (simp (words-no h))

  -- what is handed back is that part of the message
  words-place-yes : x.at + x.count * 4 ≤ length s → x.at ≡ words_place s x
  unfolding words_place
  words-place-yes h = sym (simp (words-yes h))

  words-place-no : length s < x.at + x.count * 4 → 0 ≡ words_place s x
  unfolding words_place
  words-place-no h = sym (simp (words-no h))

  pub words-handed-yes : (q : ℕ × ℕ) → x.at + x.count * 4 ≤ length s
      → Part q (words_part_of s x) (words_place s x) (q.0, x.at + q.1) (take (x.at + x.count * 4 - x.at) (drop x.at s))
  words-handed-yes q h = record { is = words-part-yes h; begins = ap (λ (k : ℕ). (q.0, k)) (omega (arith, words-place-yes h)) }

  pub words-handed-no : (q : ℕ × ℕ) → length s < x.at + x.count * 4 → Part q (words_part_of s x) (words_place s x) q []
  words-handed-no q h = record { is = words-part-no h; begins = ap (λ (k : ℕ). (q.0, k)) (omega (arith, words-place-no h)) }

  pub word_none : (i : ℕ) → length s < x.at + x.count * 4 → none ≡ word_of s x i
  unfolding word_of
  word_none i h = sym (simp (words-no h))

  pub word-past : (i : ℕ) → x.count ≤ i → x.at + x.count * 4 ≤ length s → none ≡ word_of s x i
  unfolding word_of
  word-past i g h = let k : x.count < suc i = omega arith in sym (simp (words-yes h, lt-leb (suc i) x.count k))

  pub word_some : (i : ℕ) {v : ℕ} → i < x.count → x.at + x.count * 4 ≤ length s → v ≡ number_at 4 s (x.at + i * 4) → some v ≡ word_of s x i
  unfolding word_of
  word_some i g h e = rw (e, words-yes h, le-leb (suc i) x.count g)

-- words inside the front of a source are the same words of the whole
number-grows : (k : ℕ) (s t : List ℕ) (q : ℕ) → q + k ≤ length s → number_at k (s ++ t) q ≡ number_at k s q
number-grows zero s t q h = refl
number-grows (suc k) s t q h =
    ap₂ (λ a b. a * 256 ^ k + b) (get_or-append s t 0 q (omega arith)) (number-grows k s t (q + 1) (omega arith))

at-grows : (n : ℕ) (s t : List ℕ) (q : ℕ) → q + n * 4 ≤ length s → words_at n (s ++ t) q ≡ words_at n s q
at-grows zero s t q h = refl
at-grows (suc n) s t q h = ap₂ (λ a l. a ∷ l) (number-grows 4 s t q (omega arith)) (at-grows n s t (q + 4) (omega arith))

pub words-grow : (s t : List ℕ) (x : Piece) → are_inside s x ≡ true → words_in (s ++ t) x ≡ words_in s x
unfolding are_inside
words-grow s t x h = at-grows x.count s t x.at (leb-true (x.at + x.count * 4) (length s) h)

pub are-inside-grows : (s t : List ℕ) (x : Piece) → are_inside s x ≡ true → are_inside (s ++ t) x ≡ true
unfolding are_inside
are-inside-grows s t x h =
    let k : x.at + x.count * 4 ≤ length s = leb-true (x.at + x.count * 4) (length s) h in
    le-leb (x.at + x.count * 4) (length (s ++ t)) (omega (arith, length-append s t))

-- words that lie inside a source of bytes that is not too long are a list in range
number-good : (s : List ℕ) (q : ℕ) → Bytes s → 4 ≤ length s - q → word.kind.Good (number_at 4 s q)
unfolding word number
number-good s q b h =
    let size : length (take 4 (drop q s)) ≡ 4 = length-take-le 4 (drop q s) (rw (length-drop q s) h) in
    let l : value (take 4 (drop q s)) < 256 ^ length (take 4 (drop q s)) = value-lt (take 4 (drop q s)) (bytes_take 4 (drop q s) (bytes_drop q s b)) in
    rw (size, value-at 4 s q h) at l

how-many : (n : ℕ) (s : List ℕ) (q : ℕ) → (from_list ℕ (words_at n s q)).0 ≡ n
how-many zero s q = refl
how-many (suc n) s q = ap suc (how-many n s (q + 4))

each-good : (n : ℕ) (s : List ℕ) (q : ℕ) → Bytes s → n * 4 ≤ length s - q
    → (times word (from_list ℕ (words_at n s q)).0).kind.Good (from_list ℕ (words_at n s q)).1
each-good zero s q b h = tt
each-good (suc n) s q b h = (number-good s q b (omega arith), each-good n s (q + 4) b (omega arith))

pub words-good : (s : List ℕ) (x : Piece) → Bytes s → length s ≤ most → are_inside s x ≡ true → words.kind.Good (words_in s x)
unfolding words word number are_inside
words-good s x b k i =
    let h : x.at + x.count * 4 ≤ length s = leb-true (x.at + x.count * 4) (length s) i in
    (omega (arith, how-many x.count s x.at), each-good x.count s x.at b (omega arith))

word-length : (v : ℕ) → length (word.kind.write v) ≡ 4
unfolding word number
word-length v = length_digits 4 v

-- the bytes of words are those of the source
word_bytes : (s : List ℕ) (q : ℕ) → Bytes s → 4 ≤ length s - q → word.kind.write (number_at 4 s q) ≡ take 4 (drop q s)
unfolding word number
word_bytes s q b h =
    let size : length (take 4 (drop q s)) ≡ 4 = length-take-le 4 (drop q s) (rw (length-drop q s) h) in
    let e : digits (length (take 4 (drop q s))) (value (take 4 (drop q s))) ≡ take 4 (drop q s) =
    digits_value (take 4 (drop q s)) (bytes_take 4 (drop q s) (bytes_drop q s b)) in
    rw (size, value-at 4 s q h) at e

take_more : (l : List ℕ) (i j : ℕ) → i ≤ length l → take i l ++ take j (drop i l) ≡ take (i + j) l
take_more l zero j h = ap (λ k. take k l) (sym (zero-add j))
take_more [] (suc i) j h = absurd (omega arith)
take_more (x ∷ l) (suc i) j h = ap (λ k. x ∷ k) (take_more l i j (omega arith)) ∙ ap (λ k. take k (x ∷ l)) (sym (suc-add i j))

times-bytes : (n : ℕ) (s : List ℕ) (q : ℕ) → Bytes s → n * 4 ≤ length s - q
    → (times word (from_list ℕ (words_at n s q)).0).kind.write (from_list ℕ (words_at n s q)).1 ≡ take (n * 4) (drop q s)
times-bytes zero s q b h = refl
times-bytes (suc n) s q b h =
    let e : 4 + n * 4 ≡ suc n * 4 = omega arith in
    ap₂ (λ x y. x ++ y) (word_bytes s q b (omega arith)) (times-bytes n s (q + 4) b (omega arith) ∙ ap (take (n * 4)) (sym (drop-drop 4 q s)))
    ∙ take_more (drop q s) 4 (n * 4) (omega (arith, length-drop q s)) ∙ ap (λ k. take k (drop q s)) e

pub words-bytes : (s : List ℕ) (x : Piece) → Bytes s → are_inside s x ≡ true
    → word.kind.write x.count ++ take (x.count * 4) (drop x.at s) ≡ words.kind.write (words_in s x)
unfolding words
words-bytes s x b h =
    let k : x.at + x.count * 4 ≤ length s = words-le s x h in
    sym (ap₂ (λ n l. word.kind.write n ++ l) (how-many x.count s x.at) (times-bytes x.count s x.at b (omega arith)))

-- how long words are written, whatever they are
times_long : (n : ℕ) (t : Tuple ℕ n) → length ((times word n).kind.write t) ≡ n * 4
times_long zero t = refl
times_long (suc n) t =
    length-append (word.kind.write t.0) ((times word n).kind.write t.1) ∙ omega (arith, word-length t.0, times_long n t.1)

pub words-length : (s : List ℕ) (x : Piece) → length (words.kind.write (words_in s x)) ≡ 4 + x.count * 4
unfolding words
words-length s x =
    let t = from_list ℕ (words_in s x) in
    length-append (word.kind.write t.0) ((times word t.0).kind.write t.1)
    ∙ omega (arith, word-length t.0, times_long t.0 t.1, how-many x.count s x.at)
