-- What is written as a fragment completes with its message.
-- Assumes nothing.
use Rattle.std.proofs.Math.Path.{◌≡◌, refl, sym, ap, ap₂}
use Rattle.std.proofs.Common.{◌∙◌, zero-add, div-add-mod'}
use mathlib.Core.List.{List, [], ◌∷◌, ◌++◌, foldl, append_assoc}
use Rattle.std.specs.Prelude.{true}
use Prim.Native.Nat.{ℕ, ◌+◌, ◌-◌, ◌*◌, ◌/◌, ◌%◌, ◌≤◌, ◌<◌}
use native.Mathlib.Omega.{arith}
use Rattle.std.proofs.Math.ListN.{length, take, drop, length-append, length-drop}
use Rattle.std.proofs.lemmas.List.Edits.{sets, sets-eq}
use Rattle.std.proofs.Math.Seq.{length-take-le, take_at, drop_at, drop-drop}
use borrow.Author.Tests.{le-leb, lt-leb}
use borrow.Rule.Slice.PartMut.{mid_of, put_mid}
use Rattle.xdr.specs.Meaning.Bytes.{Bytes}
use Rattle.xdr.specs.Meaning.Answer.{most, Written, done, unwritten}
use Rattle.xdr.specs.Meaning.Items.{number, word}
use Rattle.xdr.specs.Meaning.Public.{laid}
use Rattle.xdr.specs.Laws.Padding.{word-length}
use Rattle.xdr.specs.Laws.Write.{copy-put, laid-is, laid-at, room_at}
use Rattle.rpcwire.specs.Meaning.Stream.{Said, more, complete, stand, fresh, advance, after, step_at, header_byte, headed, settled, feed_of}
use Rattle.rpcwire.specs.Meaning.Fragment.{fragment_of, fragment_said, fragment_left, WritesFragment}
use Rattle.rpcwire.specs.Laws.Steps.{begin-more, settled-done, walk-ended}
use Rattle.rpcwire.specs.Laws.Promise.{fresh-fits}
use Rattle.rpcwire.specs.Laws.Turns.{copied-walk}
use Rattle.xdr.specs.declared.refusal.Refusal.TheVariants.{TooLong, NoRoom, PastEnd}

-- ---- the writer, by case

module _ (m : List ℕ) (at : ℕ) (o : List ℕ) (b : Bytes m) where
  pub fragment-past : length o < at → WritesFragment m at o (unwritten PastEnd) o
  unfolding fragment_said
  fragment-past h = record { says = simp (lt-leb at (length o) h); leaves = refl; bytes = b }

  module _ (h : at ≤ length o) where
    pub fragment-long : most < length m → WritesFragment m at o (unwritten TooLong) o
    unfolding fragment_said
    fragment-long g = record { says = simp (le-leb at (length o) h, lt-leb (length m) most g); leaves = refl; bytes = b }

    module _ (g : length m ≤ most) where
      pub fragment-short : length o - at < 4 + length m → WritesFragment m at o (unwritten (NoRoom (4 + length m))) o
      unfolding fragment_said
      fragment-short r =
          let k : length o < at + 4 + length m = omega arith in
          record { says = simp (le-leb at (length o) h, le-leb (length m) most g, lt-leb (at + 4 + length m) (length o) k); leaves = refl; bytes = b }

      -- the header is laid in the tail from `at` on, and the message copied into the tail behind it
      pub fragment-done : 4 + length m ≤ length o - at → {z₁ o₁ z₂ : List ℕ} → z₁ ≡ laid (word.kind.write (length m + 2147483648)) (mid_of at (length o - at) o)
          → o₁ ≡ put_mid at (length o - at) o z₁ → z₂ ≡ take (length m) m ++ drop (length m) (mid_of (at + 4) (length o₁ - (at + 4)) o₁)
          → WritesFragment m at o (done (at + 4 + length m)) (put_mid (at + 4) (length o₁ - (at + 4)) o₁ z₂)
      unfolding fragment_said fragment_of
      fragment-done r {z₁} {o₁} {z₂} e₁ f₁ e₂ =
          let n : ℕ = length m in
          let w : List ℕ = word.kind.write (n + 2147483648) in
          let four : length w ≡ 4 = word-length (n + 2147483648) in
          let room : at + 4 + n ≤ length o = omega arith in
          let g₁ : o₁ ≡ (take at o ++ w) ++ drop (at + 4) o =
          f₁ ∙ laid-at o w at (omega arith) e₁ ∙ sym (append_assoc (take at o) w (drop (at + length w) o))
          ∙ ap (λ k. (take at o ++ w) ++ drop (at + k) o) four in
          let front : length (take at o ++ w) ≡ at + 4 = length-append (take at o) w ∙ omega (arith, length-take-le at o h) in
          let long : length o₁ ≡ length o =
          ap length g₁ ∙ length-append (take at o ++ w) (drop (at + 4) o) ∙ omega (arith, front, length-drop (at + 4) o) in
          let t : take (at + 4) o₁ ≡ take at o ++ w = ap (take (at + 4)) g₁ ∙ take_at (take at o ++ w) (drop (at + 4) o) (at + 4) front in
          let d : drop (at + 4) o₁ ≡ drop (at + 4) o = ap (drop (at + 4)) g₁ ∙ drop_at (take at o ++ w) (drop (at + 4) o) (at + 4) front in
          let far : drop (at + 4 + n) o₁ ≡ drop (at + 4 + n) o = sym (drop-drop n (at + 4) o₁) ∙ ap (drop n) d ∙ drop-drop n (at + 4) o in
          let e₃ : z₂ ≡ laid m (mid_of (at + 4) (length o₁ - (at + 4)) o₁) = laid-is (room_at o₁ (at + 4) n (omega arith)) (copy-put e₂) in
          record {
            says = simp (le-leb at (length o) h, le-leb (length m) most g, le-leb (at + 4 + length m) (length o) room);
            leaves =
                laid-at o₁ m (at + 4) (omega arith) e₃ ∙ ap₂ (λ x y. x ++ (m ++ y)) t far
                ∙ simp append_assoc;
            bytes = b;
          }

-- ---- the fragment read back

-- the four bytes of a word, and that they make the word again
word_bytes : (w : ℕ) → word.kind.write w ≡ w / 16777216 ∷ w % 16777216 / 65536 ∷ w % 16777216 % 65536 / 256 ∷ w % 16777216 % 65536 % 256 / 1 ∷ []
unfolding word number
word_bytes w = refl

word-again : (w : ℕ) → w < 4294967296
    → (((0 * 256 + w / 16777216) * 256 + w % 16777216 / 65536) * 256 + w % 16777216 % 65536 / 256) * 256 + w % 16777216 % 65536 % 256 / 1 ≡ w
word-again w h = omega (arith, div-add-mod' w 16777216, div-add-mod' (w % 16777216) 65536, div-add-mod' (w % 16777216 % 65536) 256)

pub fragment-read : (m rest d : List ℕ) → length d ≤ most → length m ≤ length d
    → feed_of (fresh (length d)) (fragment_of m ++ rest) d ≡ stand (complete (length m) (fresh (length d)) (4 + length m)) (m ++ drop (length m) d)
unfolding feed_of fragment_of advance after step_at header_byte headed
fragment-read m rest d h k =
    let c : ℕ = length d in
    let n : ℕ = length m in
    let x : List ℕ = m ++ rest in
    let w : List ℕ = word.kind.write (n + 2147483648) in
    ap₂ (λ (f : Said) (l : List ℕ). foldl advance (stand f d) l) (begin-more (fresh c) c (fresh-fits c h) refl) (append_assoc w m rest)
    ∙ header_read c n d x k (omega arith)
    ∙ copied-walk n c 0 n true d x 4 (omega arith) (omega (arith, length-append m rest))
    ∙ ap (λ (f : Said). foldl advance (stand f (sets d 0 (take n x))) (drop n x)) (settled-done c (0 + n) (n - n) true (4 + n) (omega arith) refl)
    ∙ walk-ended (complete (0 + n) (fresh c) (4 + n)) (sets d 0 (take n x)) (drop n x) tt
    ∙ ap (λ (p : ℕ). stand (complete p (fresh c) (4 + n)) (sets d 0 (take n x))) (zero-add n)
    ∙ ap (λ (l : List ℕ). stand (complete n (fresh c) (4 + n)) (sets d 0 l)) (take_at m rest n refl)
    ∙ ap (λ (l : List ℕ). stand (complete n (fresh c) (4 + n)) l) (sets-eq m d 0 (omega arith) ∙ ap (λ (p : ℕ). m ++ drop p d) (zero-add n))
  where
    four-read : (c n w : ℕ) (d bs : List ℕ) → w ≡ n + 2147483648 → n ≤ c → n ≤ most
        → foldl advance (stand (more (fresh c) 0) d) (w / 16777216 ∷ w % 16777216 / 65536 ∷ w % 16777216 % 65536 / 256 ∷ w % 16777216 % 65536 % 256 / 1 ∷ bs)
        ≡ foldl advance (stand (settled c 0 n true 4) d) bs
    four-read c n w d bs h g k =
        let e : w % 2147483648 ≡ n = omega arith in
        simp (word-again w (omega arith), e, le-leb n (c - 0) (omega arith), le-leb 2147483648 w (omega arith))

    header_read : (c n : ℕ) (d bs : List ℕ) → n ≤ c → n ≤ most
        → foldl advance (stand (more (fresh c) 0) d) (word.kind.write (n + 2147483648) ++ bs) ≡ foldl advance (stand (settled c 0 n true 4) d) bs
    header_read c n d bs h k =
        ap (λ (l : List ℕ). foldl advance (stand (more (fresh c) 0) d) (l ++ bs)) (word_bytes (n + 2147483648))
        ∙ four-read c n (n + 2147483648) d bs refl h k

module _ (m : List ℕ) (at : ℕ) (o : List ℕ) where
  -- what the contract permits is one answer and one buffer
  pub one-fragment : {v w : Written} {p q : List ℕ} → WritesFragment m at o v p → WritesFragment m at o w q → (v ≡ w) × (p ≡ q)
  one-fragment c d =
      (c.says ∙ sym d.says, c.leaves ∙ ap (λ z. fragment_left m z at o) (c.says ∙ sym d.says) ∙ sym d.leaves)
