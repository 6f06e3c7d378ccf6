-- What the code's stores leave: a word, an opaque and a list of words at the front of a buffer.
-- Assumes nothing.
use Rattle.std.specs.Prelude.{◌≡◌, refl, Bool, true, false, List, [], ◌∷◌, ◌++◌, ℤ}
use Rattle.std.proofs.Common.{sym, ◌∙◌, append_assoc, length-append, length-drop, length-take-le, SFits, to_z, of_z}
use Rattle.std.proofs.Math.Path.{ap, ap₂, subst}
use Prim.Native.Nat.{ℕ, zero, suc, ◌+◌, ◌-◌, ◌*◌, ◌/◌, ◌%◌, ◌<◌, ◌≤◌}
use native.Mathlib.Omega.{arith}
use Rattle.std.proofs.Math.ListN.{length, take, drop, replicate}
use Rattle.std.proofs.lemmas.List.Edits.{sets}
use Rattle.std.proofs.Math.Seq.{drop-append-add}
use borrow.Rule.Slice.PartMut.{mid_of, put_mid}
use Rattle.std.specs.Int.{w32, w64}
use Rattle.std.proofs.lemmas.Int.{to_z-of_z}
use Rattle.xdr.specs.Meaning.Bytes.{padding, unsigned}
use Rattle.xdr.specs.Meaning.Items.{number, word, hyper, flag, int, long, opaque}
use Rattle.xdr.specs.Meaning.Pieces.{opaque_size}
use Rattle.xdr.specs.Meaning.Public.{laid}
use Rattle.xdr.specs.Laws.Swap.{swapped, swapped-bytes, swapped64, swapped64-bytes}
use Rattle.xdr.specs.Laws.Padding.{word-length, opaque-long, padded}
use Rattle.xdr.specs.Laws.Lays.{after, tail_of}
use Rattle.xdr.specs.Laws.Write.{Put, put-sets, put_same, laid-is, laid-at, lent-first, field, copy-put}

-- the four stores of a word
pub word-laid : (v : ℕ) {s : ℕ} (xs : List ℕ) → v < 4294967296 → s ≡ swapped v → 4 ≤ length xs
    → sets xs 0 (s % 256 ∷ s / 256 % 256 ∷ s / 65536 % 256 ∷ s / 16777216 ∷ []) ≡ laid (word.kind.write v) xs
word-laid v {s} xs h e g =
    laid-is g
    (put_same {bs = s % 256 ∷ s / 256 % 256 ∷ s / 65536 % 256 ∷ s / 16777216 ∷ []} (rw e (swapped-bytes v h)) (put-sets _ xs g))

-- the eight stores of a hyper
pub hyper-laid : (v : ℕ) {s : ℕ} (xs : List ℕ) → v < 18446744073709551616 → s ≡ swapped64 v → 8 ≤ length xs
    → sets xs 0 (s % 256 ∷ s / 256 % 256 ∷ s / 65536 % 256 ∷ s / 16777216 % 256 ∷ s / 4294967296 % 256 ∷ s / 1099511627776 % 256 ∷ s / 281474976710656 % 256 ∷ s / 72057594037927936 ∷ [])
    ≡ laid (hyper.kind.write v) xs
hyper-laid v {s} xs h e g =
    let bs : ℕ → List ℕ = λ s. s % 256 ∷ s / 256 % 256 ∷ s / 65536 % 256 ∷ s / 16777216 % 256 ∷ s / 4294967296 % 256 ∷ s / 1099511627776 % 256 ∷ s / 281474976710656 % 256 ∷ s / 72057594037927936 ∷ [] in
    laid-is g (put_same {bs = bs s} (ap bs e ∙ swapped64-bytes v h) (put-sets (bs s) xs g))

-- behind n bytes, what a zero word laid at n + k leaves of them is k zeros
zero-end : (k : ℕ) (l : List ℕ) → k < 4 → drop (4 - k) (0 ∷ 0 ∷ 0 ∷ 0 ∷ l) ≡ replicate k 0 ++ l
zero-end zero l h = refl
zero-end (suc zero) l h = refl
zero-end (suc (suc zero)) l h = refl
zero-end (suc (suc (suc zero))) l h = refl
zero-end (suc (suc (suc (suc k)))) l h = absurd (omega arith)

zero-tail : (o o' : List ℕ) (n k : ℕ) → k < 4 → 4 + (n + k) ≤ length o → o' ≡ take (n + k) o ++ (0 ∷ 0 ∷ 0 ∷ 0 ∷ drop (n + k + 4) o)
    → drop (4 + n) o' ≡ replicate k 0 ++ drop (4 + (n + k)) o
zero-tail o o' n k h room e =
    let size : length (take (n + k) o) ≡ n + k = length-take-le (n + k) o (omega arith) in
    let at : 4 + n ≡ length (take (n + k) o) + (4 - k) = omega arith in
    let far : n + k + 4 ≡ 4 + (n + k) = omega arith in
    ap (drop (4 + n)) e
    ∙ ap (λ i. drop i (take (n + k) o ++ (0 ∷ 0 ∷ 0 ∷ 0 ∷ drop (n + k + 4) o))) at
    ∙ drop-append-add (take (n + k) o) (0 ∷ 0 ∷ 0 ∷ 0 ∷ drop (n + k + 4) o) (4 - k)
    ∙ zero-end k (drop (n + k + 4) o) h
    ∙ ap (λ i. replicate k 0 ++ drop i o) far

zero_word : word.kind.write 0 ≡ 0 ∷ 0 ∷ 0 ∷ 0 ∷ []
unfolding word number
zero_word = refl

same_length : (o o' : List ℕ) (i : ℕ) → 4 + i ≤ length o → o' ≡ take i o ++ (0 ∷ 0 ∷ 0 ∷ 0 ∷ drop (i + 4) o) → length o' ≡ length o
same_length o o' i h e =
    ap length e ∙ length-append (take i o) (0 ∷ 0 ∷ 0 ∷ 0 ∷ drop (i + 4) o)
    ∙ omega (arith, length-take-le i o (omega arith), length-drop (i + 4) o)

regroup : (w b r d : List ℕ) → (w ++ b) ++ (r ++ d) ≡ (w ++ (b ++ r)) ++ d
regroup w b r d = simp append_assoc

-- the last word is zeroed, then the length is written, then the bytes
module _ (b o : List ℕ) (m : ℕ) (em : m ≡ (length b + 3) / 4 * 4) (room : opaque_size (length b) ≤ length o) where
  zeroed_first : {zs o₁ z₁ o₂ z₂ : List ℕ} → zs ≡ laid (word.kind.write 0) (mid_of m (length o - m) o) → o₁ ≡ put_mid m (length o - m) o zs
      → z₁ ≡ laid (word.kind.write (length b)) (mid_of 0 (length o₁ - 0) o₁) → o₂ ≡ put_mid 0 (length o₁ - 0) o₁ z₁
      → z₂ ≡ take (length b) b ++ drop (length b) (mid_of 4 (length o₂ - 4) o₂)
      → Put o (put_mid 4 (length o₂ - 4) o₂ z₂) (opaque_size (length b)) (opaque.kind.write b)
  unfolding opaque
  zeroed_first {zs} {o₁} {z₁} {o₂} {z₂} e₀ f₀ e₁ f₁ e₂ =
      let n : ℕ = length b in
      let k : ℕ = padding n in
      let p : m ≡ n + k = em ∙ padded n in
      let w : length (word.kind.write 0) ≡ 4 = word-length 0 in
      let q : m + length (word.kind.write 0) ≤ length o = omega arith in
      let g₀ : o₁ ≡ take m o ++ (word.kind.write 0 ++ drop (m + length (word.kind.write 0)) o) = f₀ ∙ laid-at o (word.kind.write 0) m q e₀ in
      let g₁ : o₁ ≡ take (n + k) o ++ (0 ∷ 0 ∷ 0 ∷ 0 ∷ drop (n + k + 4) o) =
      g₀ ∙ ap₂ (λ i j. take i o ++ (word.kind.write 0 ++ drop (i + j) o)) p w ∙ ap (λ l. take (n + k) o ++ (l ++ drop (n + k + 4) o)) zero_word in
      let t : drop (4 + n) o₁ ≡ replicate k 0 ++ drop (4 + (n + k)) o = zero-tail o o₁ n k (omega arith) (omega arith) g₁ in
      let long : length o₁ ≡ length o = same_length o o₁ (n + k) (omega arith) g₁ in
      let p₁ : Put o₁ o₂ 4 (word.kind.write n) =
      subst (λ y. Put o₁ y 4 (word.kind.write n)) (sym f₁) (lent-first (word.kind.write n) (omega arith) (word-length n) e₁) in
      let p₂ : Put o₁ (put_mid 4 (length o₂ - 4) o₂ z₂) (4 + n) (word.kind.write n ++ b) = field p₁ (omega arith) (copy-put e₂) in
      let far : 4 + (n + k) ≡ 4 + n + k = omega arith in
      record {
        is = p₂.is ∙ ap (λ l. (word.kind.write n ++ b) ++ l) (t ∙ ap (λ i. replicate k 0 ++ drop i o) far) ∙ regroup (word.kind.write n) b (replicate k 0) (drop (4 + n + k) o);
        long = opaque-long b;
      }

module _ (b o y z : List ℕ) where
  pub opaque-laid : (x : List ℕ) → opaque_size (length b) ≤ length o → x ≡ laid (word.kind.write 0) (tail_of ((length b + 3) / 4 * 4) o)
      → y ≡ laid (word.kind.write (length b)) (tail_of 0 (after ((length b + 3) / 4 * 4) o x))
      → z ≡ take (length b) b ++ drop (length b) (tail_of 4 (after 0 (after ((length b + 3) / 4 * 4) o x) y))
      → Put o (after 4 (after 0 (after ((length b + 3) / 4 * 4) o x) y) z) (opaque_size (length b)) (opaque.kind.write b)
  opaque-laid x h e f g = zeroed_first b o _ refl h e refl f refl g

  -- a count and the words behind it
  pub words-laid : (n : ℕ) → 4 + length b ≤ length o → y ≡ laid (word.kind.write n) (tail_of 0 o) → z ≡ take (length b) b ++ drop (length b) (tail_of 4 (after 0 o y))
      → Put o (after 4 (after 0 o y) z) (4 + length b) (word.kind.write n ++ b)
  words-laid n h f g = field (lent-first (word.kind.write n) (omega arith) (word-length n) f) (omega arith) (copy-put g)

-- items that are written as a number
pub true-bytes : {v : Bool} → v ≡ true → word.kind.write 1 ≡ flag.kind.write v
unfolding flag
true-bytes e = sym (rw e)

pub false-bytes : {v : Bool} → v ≡ false → word.kind.write 0 ≡ flag.kind.write v
unfolding flag
false-bytes e = sym (rw e)

-- the same, where a signed number was stored
pub int-stored : (v : ℤ) (n : ℕ) → SFits w32 v → n ≡ unsigned 2147483648 (to_z w32 (of_z w32 v)) → word.kind.write n ≡ int.kind.write v
unfolding word int
int-stored v n h e = ap (number 4).kind.write (e ∙ ap (unsigned 2147483648) (to_z-of_z w32 v h))

pub long-stored : (v : ℤ) (n : ℕ) → SFits w64 v → n ≡ unsigned 9223372036854775808 (to_z w64 (of_z w64 v)) → hyper.kind.write n ≡ long.kind.write v
unfolding hyper long
long-stored v n h e = ap (number 8).kind.write (e ∙ ap (unsigned 9223372036854775808) (to_z-of_z w64 v h))
