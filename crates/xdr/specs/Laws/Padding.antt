-- Padding is the end of a word; and how long items are.
-- Assumes nothing.
use Rattle.std.specs.Prelude.{◌≡◌, refl, Bool, true, false, cond, ◌&&◌, List, ◌++◌, ℕ, zero, suc, ◌+◌, ◌-◌, ◌*◌, ◌/◌, ◌%◌, ◌<◌, ◌≤◌, eqb, leb, ltb, length, get_or, take, drop, replicate}
use Rattle.std.proofs.Common.{sym, ap, ap₂, ◌∙◌, add_assoc, add-one, arith, length-append, length-drop, drop-cons, length-take-le, eq-eqb, ne_eqb, eqb-true, le-leb, leb-true, lt-ltb, le-ltb}
use Rattle.std.proofs.Math.Bool.{and-true}
use Rattle.std.proofs.lemmas.List.{length-replicate}
use Rattle.std.proofs.lemmas.Bool.{eqb-false, lt-leb}
use Rattle.xdr.specs.Meaning.Bytes.{value, digits, number_at, padding, zeros}
use Rattle.xdr.specs.Meaning.Refusal.{cut_short}
use Rattle.xdr.specs.Meaning.Answer.{took, refused, most}
use Rattle.xdr.specs.Meaning.Items.{number, word, hyper, word_pair, hyper_pair, flag, from_flag, eight, opaque}
use Rattle.xdr.specs.Meaning.Pieces.{bytes_in, is_inside, piece_answer, opaque_size, size_up_to, words_up_to}
use Rattle.xdr.specs.Laws.Digits.{length_digits}
use Rattle.xdr.specs.Laws.Swap.{swapped, little, big}
use Rattle.xdr.specs.Laws.Pieces.{inside-le}
use Rattle.xdr.specs.declared.piece.Piece.{Piece}

-- whether the low k bytes of a word are zero, for k up to 3
abbrev pub last_zeros : ℕ → ℕ → Bool
last_zeros w zero = true
last_zeros w (suc zero) = eqb (w % 256) 0
last_zeros w (suc (suc zero)) = eqb (w % 65536) 0
last_zeros w (suc (suc (suc k))) = eqb (w % 16777216) 0

-- what a word in the other order is below if the bytes behind its first j are zero; j = 0 stands for all four
abbrev pub limit_of : ℕ → ℕ
limit_of zero = 4294967296
limit_of (suc zero) = 256
limit_of (suc (suc zero)) = 65536
limit_of (suc (suc (suc j))) = 16777216

pub limit-rest : (j : ℕ) → (j ≡ 0 → ⊥) → (j ≡ 1 → ⊥) → (j ≡ 2 → ⊥) → 16777216 ≡ limit_of j
limit-rest zero a b c = absurd (a refl)
limit-rest (suc zero) a b c = absurd (b refl)
limit-rest (suc (suc zero)) a b c = absurd (c refl)
limit-rest (suc (suc (suc j))) a b c = refl

-- a number is below a limit exactly if another is zero
below-zero : (v l a : ℕ) → (a ≡ 0 → v < l) → (v < l → a ≡ 0) → ltb v l ≡ eqb a 0
below-zero v l a f g = by (eqb a 0) refl
  where
    by : (z : Bool) → eqb a 0 ≡ z → ltb v l ≡ z
    by true e = lt-ltb v l (f (eqb-true a 0 e))
    by false e = le-ltb v l (let n : v < l → ⊥ = λ h. eqb-false a 0 e (g h) in omega (arith, n))

-- a word by its four bytes: in one order it ends in zeros exactly if it is below the limit in the other
module _ (a b c d : ℕ) (ha : a < 256) (hb : b < 256) (hc : c < 256) (hd : d < 256) where
  low-1 : big a b c d % 256 ≡ d
  low-1 = omega arith

  low-2 : big a b c d % 65536 ≡ c * 256 + d
  low-2 = omega arith

  low-3 : big a b c d % 16777216 ≡ b * 65536 + c * 256 + d
  low-3 = omega arith

  below-limit : (j : ℕ) → j < 4 → ltb (little a b c d) (limit_of j) ≡ last_zeros (big a b c d) ((4 - j) % 4)
  below-limit zero h = lt-ltb (little a b c d) 4294967296 (omega arith)
  below-limit (suc zero) h = rw low-3 (below-zero (little a b c d) 256 (b * 65536 + c * 256 + d) (λ e. omega arith) (λ e. omega arith))
  below-limit (suc (suc zero)) h = rw low-2 (below-zero (little a b c d) 65536 (c * 256 + d) (λ e. omega arith) (λ e. omega arith))
  below-limit (suc (suc (suc zero))) h = rw low-1 (below-zero (little a b c d) 16777216 d (λ e. omega arith) (λ e. omega arith))
  below-limit (suc (suc (suc (suc j)))) h = absurd (omega arith)

-- of no bytes, it matters not which word is read
pub if_none : (k a b : ℕ) → k ≡ 0 → a ≡ cond (eqb k 0) a b
if_none k a b h = sym (ap (λ z. cond z a b) (eq-eqb k 0 h))

pub if_some : (k a b : ℕ) → (k ≡ 0 → ⊥) → b ≡ cond (eqb k 0) a b
if_some k a b h = sym (ap (λ z. cond z a b) (ne_eqb k 0 h))

pub other-in : (k a b n r : ℕ) → r ≡ cond (eqb k 0) a b → a + 4 ≤ n → b + 4 ≤ n → r + 4 ≤ n
other-in zero a b n r e h g = omega arith
other-in (suc k) a b n r e h g = let f : r ≡ b = e ∙ sym (if_some (suc k) a b (λ z. omega arith)) in omega arith

other-zeros : (j a b q : ℕ) (s : List ℕ) → q ≡ cond (eqb j 0) a b → last_zeros (number_at 4 s q) ((4 - j) % 4) ≡ last_zeros (number_at 4 s b) ((4 - j) % 4)
other-zeros zero a b q s e = refl
other-zeros (suc j) a b q s e = ap (λ i. last_zeros (number_at 4 s i) ((4 - suc j) % 4)) (e ∙ sym (if_some (suc j) a b (λ z. omega arith)))

-- the padding of n bytes is zero by the test of the numbers that the code has
pub zeros-told : (n a b q r x y : ℕ) (s : List ℕ) → q ≡ cond (eqb (n % 4) 0) a b → swapped r ≡ number_at 4 s q → (x ≡ r) × (x < 4294967296)
    → y ≡ limit_of (n % 4) → ltb x y ≡ last_zeros (number_at 4 s b) (padding n)
zeros-told n a b q r x y s e f g h =
    let top : x / 16777216 < 256 = omega (arith, g.1) in
    let k : x ≡ little (x % 256) (x / 256 % 256) (x / 65536 % 256) (x / 16777216) = omega arith in
    ap₂ ltb k h
    ∙ below-limit (x % 256) (x / 256 % 256) (x / 65536 % 256) (x / 16777216) (omega arith) (omega arith) (omega arith) top (n % 4) (omega arith)
    ∙ ap (λ w. last_zeros w (padding n)) (ap swapped g.0 ∙ f) ∙ other-zeros (n % 4) a b q s e

-- n bytes with their padding are n rounded up to a multiple of four
pub padded : (n : ℕ) → (n + 3) / 4 * 4 ≡ n + padding n
padded n = omega arith

pad-small : (n : ℕ) → padding n < 4
pad-small n = omega arith

-- bytes are all zero exactly if the number that they write is
three-zero : (b c d : ℕ) → eqb (b * 65536 + c * 256 + d) 0 ≡ (eqb b 0 && (eqb c 0 && (eqb d 0 && true)))
three-zero b c d = go (eqb b 0) refl (eqb c 0) refl (eqb d 0) refl
  where
    go : (x : Bool) → eqb b 0 ≡ x → (y : Bool) → eqb c 0 ≡ y → (z : Bool) → eqb d 0 ≡ z
        → eqb (b * 65536 + c * 256 + d) 0 ≡ (x && (y && (z && true)))
    go true e true f true g = eq-eqb (b * 65536 + c * 256 + d) 0 (omega (arith, eqb-true b 0 e, eqb-true c 0 f, eqb-true d 0 g))
    go true e true f false g = ne_eqb (b * 65536 + c * 256 + d) 0 (λ h. eqb-false d 0 g (omega arith))
    go true e false f z g = ne_eqb (b * 65536 + c * 256 + d) 0 (λ h. eqb-false c 0 f (omega arith))
    go false e y f z g = ne_eqb (b * 65536 + c * 256 + d) 0 (λ h. eqb-false b 0 e (omega arith))

two-zero : (c d : ℕ) → eqb (c * 256 + d) 0 ≡ (eqb c 0 && (eqb d 0 && true))
two-zero c d = let e : c * 256 + d ≡ 0 * 65536 + c * 256 + d = omega arith in ap (λ n. eqb n 0) e ∙ three-zero 0 c d

module _ (s : List ℕ) (given : (i : ℕ) → get_or s i 0 < 256) where
  one_more : (k q : ℕ) → q < length s → zeros (take (suc k) (drop q s)) ≡ (eqb (get_or s q 0) 0 && zeros (take k (drop (q + 1) s)))
  one_more k q h = rw (drop-cons s q 0 h, add-one)

  -- the last k bytes of the word at q
  last-zeros : (k q : ℕ) → k < 4 → q + 4 ≤ length s → last_zeros (number_at 4 s q) k ≡ zeros (take k (drop (q + 4 - k) s))
  last-zeros zero q h room = refl
  last-zeros (suc zero) q h room =
      let e : q + 4 - 1 ≡ q + 1 + 1 + 1 = omega arith in
      let f : number_at 4 s q % 256 ≡ get_or s (q + 1 + 1 + 1) 0 = omega (arith, given (q + 1 + 1 + 1)) in
      rw (e, one_more 0 (q + 1 + 1 + 1) (omega arith), f) (sym (and-true (eqb (get_or s (q + 1 + 1 + 1) 0) 0)))
  last-zeros (suc (suc zero)) q h room =
      let e : q + 4 - 2 ≡ q + 1 + 1 = omega arith in
      let f : number_at 4 s q % 65536 ≡ get_or s (q + 1 + 1) 0 * 256 + get_or s (q + 1 + 1 + 1) 0 =
      omega (arith, given (q + 1 + 1), given (q + 1 + 1 + 1)) in
      rw (e, one_more 1 (q + 1 + 1) (omega arith), one_more 0 (q + 1 + 1 + 1) (omega arith), f)
      (two-zero (get_or s (q + 1 + 1) 0) (get_or s (q + 1 + 1 + 1) 0))
  last-zeros (suc (suc (suc zero))) q h room =
      let e : q + 4 - 3 ≡ q + 1 = omega arith in
      let f : number_at 4 s q % 16777216 ≡ get_or s (q + 1) 0 * 65536 + get_or s (q + 1 + 1) 0 * 256 + get_or s (q + 1 + 1 + 1) 0 =
      omega (arith, given (q + 1), given (q + 1 + 1), given (q + 1 + 1 + 1)) in
      rw (e, one_more 2 (q + 1) (omega arith), one_more 1 (q + 1 + 1) (omega arith), one_more 0 (q + 1 + 1 + 1) (omega arith), f)
      (three-zero (get_or s (q + 1) 0) (get_or s (q + 1 + 1) 0) (get_or s (q + 1 + 1 + 1) 0))
  last-zeros (suc (suc (suc (suc k)))) q h room = absurd (omega arith)

  -- an opaque's body, by the room for it; its padding is the end of the last word
  pub body-took : (p n m : ℕ) {b : Bool} → m ≡ (n + 3) / 4 * 4 → p + 4 + m ≤ length s → b ≡ last_zeros (number_at 4 s (p + m)) (padding n)
      → took (record { at = p + 4; count = n; clean = b }) (p + 4 + m) b ≡ piece_answer s p n
  body-took p n m em room eb =
      let k : m ≡ n + padding n = em ∙ padded n in
      let h : 4 + n + padding n ≤ length s - p = omega arith in
      let q : p + m + 4 - padding n ≡ p + 4 + n = omega arith in
      let z : last_zeros (number_at 4 s (p + m)) (padding n) ≡ zeros (take (padding n) (drop (p + 4 + n) s)) =
      last-zeros (padding n) (p + m) (pad-small n) (omega arith) ∙ ap (λ i. zeros (take (padding n) (drop i s))) q in
      let nx : p + 4 + m ≡ p + 4 + n + padding n = omega arith in
      rw (le-leb (4 + n + padding n) (length s - p) h, nx, eb, z)

pub body-short : (s : List ℕ) (p n : ℕ) → length s - p < 4 + n + padding n → refused (cut_short (4 + n + padding n) s p) ≡ piece_answer s p n
body-short s p n h = simp (lt-leb (4 + n + padding n) (length s - p) h)

-- how long items are
pub word-length : (v : ℕ) → length (word.kind.write v) ≡ 4
unfolding word number
word-length v = length_digits 4 v

pub hyper-length : (v : ℕ) → length (hyper.kind.write v) ≡ 8
unfolding hyper number
hyper-length v = length_digits 8 v

-- two that stand together are written one after the other
pub word-pair-bytes : (a b : ℕ) → word.kind.write a ++ word.kind.write b ≡ word_pair.kind.write (a, b)
unfolding word_pair
word-pair-bytes a b = refl

pub hyper-pair-bytes : (a b : ℕ) → hyper.kind.write a ++ hyper.kind.write b ≡ hyper_pair.kind.write (a, b)
unfolding hyper_pair
hyper-pair-bytes a b = refl

pub word-pair-length : (a b : ℕ) → length (word_pair.kind.write (a, b)) ≡ 8
word-pair-length a b = ap length (sym (word-pair-bytes a b)) ∙ simp (length-append, word-length)

pub flag-length : (v : Bool) → length (flag.kind.write v) ≡ 4
unfolding flag
flag-length v = word-length (from_flag v)

pub eight-length : (n : ℕ) → n < 18446744073709551616 → length (eight.kind.write (digits 8 n)) ≡ 8
unfolding eight
eight-length n h = hyper-length (value (digits 8 n))

pub opaque-long : (l : List ℕ) → length (opaque.kind.write l) ≡ opaque_size (length l)
unfolding opaque
opaque-long l =
    length-append (word.kind.write (length l)) (l ++ replicate (padding (length l)) 0)
    ∙ ap₂ (λ a b. a + b) (word-length (length l))
    (length-append l (replicate (padding (length l)) 0) ∙ ap (λ b. length l + b) (length-replicate (padding (length l)) 0))
    ∙ sym (add_assoc 4 (length l) (padding (length l)))

pub piece-long : (s : List ℕ) (x : Piece) → is_inside s x ≡ true → length (bytes_in s x) ≡ x.count
piece-long s x h =
    let k : x.at + x.count ≤ length s = inside-le s x h in
    length-take-le x.count (drop x.at s) (omega (arith, length-drop x.at s))

pub opaque-length : (s : List ℕ) (x : Piece) → is_inside s x ≡ true → length (opaque.kind.write (bytes_in s x)) ≡ opaque_size x.count
opaque-length s x h = opaque-long (bytes_in s x) ∙ ap opaque_size (piece-long s x h)

pub size-within : (n : ℕ) → n ≤ most → size_up_to n ≡ opaque_size n
unfolding size_up_to
size-within n h = simp (le-leb n most h)

pub size-over : (n : ℕ) → most < n → 0 ≡ size_up_to n
unfolding size_up_to
size-over n h = simp (lt-leb n most h)

size-by : (n : ℕ) (t : Bool) → leb n most ≡ t → cond t (opaque_size n) 0 ≤ 1048580
size-by n true e = let h : n ≤ 1048576 = leb-true n most e in omega arith
size-by n false e = omega arith

pub size_small : (n : ℕ) → size_up_to n ≤ 1048580
unfolding size_up_to
size_small n = size-by n (leb n most) refl

-- the same of a list of words
pub words-within : (n : ℕ) → n ≤ most → 4 + n * 4 ≡ words_up_to n
unfolding words_up_to
words-within n h = sym (simp (le-leb n most h))

pub words-over : (n : ℕ) → most < n → 0 ≡ words_up_to n
unfolding words_up_to
words-over n h = sym (simp (lt-leb n most h))

words-by : (n : ℕ) (t : Bool) → leb n most ≡ t → cond t (4 + n * 4) 0 ≤ 4194308
words-by n true e = let h : n ≤ 1048576 = leb-true n most e in omega arith
words-by n false e = omega arith

pub words_small : (n : ℕ) → words_up_to n ≤ 4194308
unfolding words_up_to
words_small n = words-by n (leb n most) refl
