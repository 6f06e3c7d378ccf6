-- What a writer of bytes leaves, in the shape of its goals, so that `search` closes each: the facts are those of its tests and of its calls.
-- Assumes nothing.
use Rattle.std.specs.Prelude.{◌≡◌, Bool, ℕ, ◌+◌, ◌-◌, ◌≤◌, ◌<◌, length, Result, Ok}
use Rattle.std.proofs.Math.Path.{refl}
use Rattle.std.proofs.Common.{sym, ap, subst, ◌∙◌, arith, lit≤, length-append, Fits, rules}
use mathlib.Core.List.{List, [], ◌++◌}
use Rattle.std.specs.Int.{w64}
use borrow.Rule.Slice.PartMut.{mid_of, put_mid}
use Rattle.xdr.specs.Meaning.Answer.{most, done}
use Rattle.xdr.specs.Meaning.Kind.{Codec}
use Rattle.xdr.specs.Meaning.Format.{exactly}
use Rattle.xdr.specs.Meaning.Order.{roomed}
use Rattle.xdr.specs.Meaning.Public.{Writes, laid}
use Rattle.xdr.specs.Meaning.Views.{view_wrote}
use Rattle.xdr.specs.Meaning.Items.{word, hyper, word_pair, flag}
use Rattle.xdr.specs.Meaning.Formats.{eight_bytes, eight_held}
use Rattle.xdr.specs.Laws.Padding.{flag-length, eight-length, size_small, words_small}
use Rattle.xdr.specs.Laws.Ranges.{eight-good, eight-bytes}
use Rattle.xdr.specs.Laws.Room.{room-laid}
use Rattle.xdr.specs.Laws.Fixed.{Fixed, word-fixed, hyper-fixed, word-pair-fixed, pair-fixed}
use Rattle.xdr.specs.Laws.Write.{Ready, laid-short, laid-is, laid_same, lent, lent-first}
use Rattle.xdr.specs.Laws.Writers.{room-place, plain-on}
use Rattle.xdr.specs.Meaning.Pieces.{size_up_to, words_up_to}
use Rattle.xdr.specs.declared.refusal.Refusal.{Refusal}

-- what a writer leaves that was lent the tail of ys from n on, and left zs there
abbrev pub after : ℕ → List ℕ → List ℕ → List ℕ
after n ys zs = put_mid n (length ys - n) ys zs

abbrev pub tail_of : ℕ → List ℕ → List ℕ
tail_of n ys = mid_of n (length ys - n) ys

-- there is no room for the n bytes
pub lay-short : (n : ℕ) (bs o : List ℕ) → length o < n → n ≡ length bs → o ≡ laid bs o
lay-short n bs o h e = laid-short bs o (omega arith)

-- one call, which lays the same bytes
pub lay-one : (a bs o z : List ℕ) → z ≡ laid a o → a ≡ bs → z ≡ laid bs o
lay-one a bs o z f e = laid_same a bs o e f

-- two and three calls, each lent the tail from its place on
module _ (n i : ℕ) (bs o a b y z : List ℕ) where
  pub lay-two : y ≡ laid a (tail_of 0 o) → z ≡ laid b (tail_of i (after 0 o y)) → a ++ b ≡ bs → i ≡ length a → n ≤ length o → n ≡ length bs
      → after i (after 0 o y) z ≡ laid bs o
  lay-two e f g k h l =
      let s : length a + length b ≡ length bs = sym (length-append a b) ∙ ap length g in
      laid_same (a ++ b) bs o g (laid-is {n = i + length b} (omega arith) (lent b (lent-first a (omega arith) (sym k) e) (omega arith) refl f))

  module _ (j : ℕ) (c w : List ℕ) where
    pub lay-three : y ≡ laid a (tail_of 0 o) → z ≡ laid b (tail_of i (after 0 o y)) → w ≡ laid c (tail_of j (after i (after 0 o y) z)) → (a ++ b) ++ c ≡ bs
        → i ≡ length a → j ≡ i + length b → n ≤ length o → n ≡ length bs → after j (after i (after 0 o y) z) w ≡ laid bs o
    lay-three e f d g k m h l =
        let s : length a + length b + length c ≡ length bs = sym (length-append (a ++ b) c ∙ ap (λ x. x + length c) (length-append a b)) ∙ ap length g in
        subst (λ j. w ≡ laid c (tail_of j (after i (after 0 o y) z)) → after j (after i (after 0 o y) z) w ≡ laid bs o) (sym m)
        (λ d.
        laid_same ((a ++ b) ++ c) bs o g
        (laid-is {n = i + length b + length c} (omega arith) (lent c (lent b (lent-first a (omega arith) (sym k) e) (omega arith) refl f) (omega arith) refl d)))
        d

pub flag-size : (v : Bool) → 4 ≡ length (flag.kind.write v)
flag-size v = sym (flag-length v)

pub ruleset lays = (rules, lay-short, lay-one, lay-two, lay-three, flag-size)

-- a kind of a fixed size
module _ {M : Type 0} {k : ℕ} {C : Codec M} (F : Fixed k C) where
  pub size_is : (m : M) → k ≡ length (C.kind.write m)
  size_is m = sym (F.writes m)

  pub size-behind : (i j : ℕ) (m : M) → j ≡ i + k → j ≡ i + length (C.kind.write m)
  size-behind i j m e = e ∙ ap (λ n. i + n) (size_is m)

  module _ (x : M) (at : ℕ) (o : List ℕ) (w : Result ℕ Refusal) where
    pub fixed_on : (n : ℕ) (zs : List ℕ) → view_wrote w ≡ roomed (length o) at k → w ≡ Ok n → k ≤ most → C.kind.Good x → zs ≡ laid (C.kind.write x) (tail_of at o)
        → Writes (exactly C) [] x at o (done n) (after at o zs)
    fixed_on n zs e f s g z = plain-on C (λ x. omega (arith, F.writes x)) x at o w k n zs (size_is x) e f g z

-- items that stand together
pub three-size : (a b c : ℕ) → 12 ≡ length (word.kind.write a ++ word_pair.kind.write (b, c))
three-size a b c = sym ((pair-fixed word-fixed word-pair-fixed).writes (a, (b, c)))

pub word-hyper-size : (a b : ℕ) → 12 ≡ length (word.kind.write a ++ hyper.kind.write b)
word-hyper-size a b = sym ((pair-fixed word-fixed hyper-fixed).writes (a, b))

-- eight bytes, held as the number that they write
module _ (v at : ℕ) (o : List ℕ) (w : Result ℕ Refusal) where
  pub eight-ready : Ready eight_bytes [] v
  unfolding eight_held
  eight-ready = record { short = omega arith; inside = refl }

  pub eight-on : (n : ℕ) (zs : List ℕ) → v < 18446744073709551616 → view_wrote w ≡ roomed (length o) at 8 → w ≡ Ok n
      → zs ≡ laid (hyper.kind.write v) (tail_of at o) → Writes eight_bytes [] v at o (done n) (after at o zs)
  unfolding eight_held
  eight-on n zs h e f z =
      room-laid eight_bytes [] v (eight-length v h) eight-ready (omega arith) at o (eight-good v h) e f (laid_same _ _ _ (eight-bytes v h) z)

-- there is room from a place on
pub ruleset rooms = (rules, room-place)

-- sums of sizes do not wrap: a size is at most 2^32
module _ (n k : ℕ) (a : n ≤ 4294967296) (b : k ≤ 4294967296) where
  pub sum-two : Fits w64 (n + k)
  sum-two = omega arith

  module _ (j : ℕ) (c : j ≤ 4294967296) where
    pub sum-three : Fits w64 (n + k + j)
    sum-three = omega arith

    module _ (i : ℕ) (d : i ≤ 4294967296) where
      pub sum-four : Fits w64 (n + k + j + i)
      sum-four = omega arith

      pub sum-five : (h : ℕ) → h ≤ 4294967296 → Fits w64 (n + k + j + i + h)
      sum-five h e = omega arith

pub by_length : (n : ℕ) (a : List ℕ) → n ≡ length a → length a ≤ most → n ≤ 4294967296
by_length n a e h = omega arith

pub by_count : (n a : ℕ) → n ≡ size_up_to a → n ≤ 4294967296
by_count n a e = omega (arith, size_small a)

pub by-words : (n a : ℕ) → n ≡ words_up_to a → n ≤ 4294967296
by-words n a e = omega (arith, words_small a)

pub ruleset sums = (tt, lit≤, sum-two, sum-three, sum-four, sum-five, by_length, by_count)

-- a place behind a field
pub behind : (i m l : ℕ) → m ≡ l → i + m ≡ i + l
behind i m l e = ap (λ m. i + m) e
