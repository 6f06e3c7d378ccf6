-- What a public writer answers that has no room.
-- Assumes nothing.
use Rattle.std.specs.Prelude.{◌≡◌, Bool, true, false, cond, List, [], ℕ, ◌+◌, ◌-◌, ◌≤◌, ◌<◌, leb, length, Result, Err}
use Rattle.std.proofs.Math.Path.{refl}
use Rattle.std.proofs.Common.{sym, ap, subst, ◌∙◌, arith}
use borrow.Author.Tests.{leb-true, leb-false}
use Rattle.xdr.specs.Meaning.Answer.{most, done, unwritten}
use Rattle.xdr.specs.Meaning.Kind.{Codec}
use Rattle.xdr.specs.Meaning.Order.{roomed}
use Rattle.xdr.specs.Meaning.Format.{Format, exactly}
use Rattle.xdr.specs.Meaning.Formats.{eight_bytes, eight_held}
use Rattle.xdr.specs.Meaning.Public.{output, Writes}
use Rattle.xdr.specs.Meaning.Views.{view_wrote}
use Rattle.xdr.specs.Laws.Padding.{eight-length}
use Rattle.xdr.specs.Laws.Fixed.{Fixed}
use Rattle.xdr.specs.Laws.Write.{Ready, no_pieces, writes-past, writes_short}
use Rattle.xdr.specs.Laws.Lays.{size_is, eight-ready}
use Rattle.xdr.specs.declared.refusal.Refusal.{Refusal}
use Rattle.xdr.specs.declared.refusal.Refusal.TheVariants.{NoRoom, PastEnd}

-- a public writer of a message whose size n is known, once the source and the pieces are tested
module _ {M S : Type 0} (F : Format M S) (s : List ℕ) (x : S) {n : ℕ} (l : length (output F s x) ≡ n) (r : Ready F s x) (at : ℕ) (o : List ℕ)
    (h : at ≤ length o) where
  module _ (k : n ≤ most) where
    pub sized-short : length o - at < n → Writes F s x at o (unwritten (NoRoom n)) o
    sized-short g =
        subst (λ z. Writes F s x at o (unwritten (NoRoom z)) o) l
        (writes_short F s x at o h r.short r.inside (omega arith) (omega arith))

module _ {M S : Type 0} (F : Format M S) (s : List ℕ) (x : S) {n : ℕ} (l : length (output F s x) ≡ n) (r : Ready F s x) (k : n ≤ most) (at : ℕ) (o : List ℕ) where
  off-by : {q : Refusal} (a b : Bool) → leb at (length o) ≡ a → leb (at + n) (length o) ≡ b
      → unwritten q ≡ cond a (cond b (done (at + n)) (unwritten (NoRoom n))) (unwritten PastEnd) → Writes F s x at o (unwritten q) o
  off-by true true e f g = let z : ◌≡◌ {A = ℕ} 0 1 = cc in absurd (omega arith)
  off-by true false e f g =
      let h : at ≤ length o = leb-true at (length o) e in
      let j : length o < at + n = leb-false (at + n) (length o) f in
      subst (λ w. Writes F s x at o w o) (sym g) (sized-short F s x l r at o h k (omega arith))
  off-by false b e f g =
      subst (λ w. Writes F s x at o w o) (sym g) (writes-past F s x at o (leb-false at (length o) e))

  off_at : {q : Refusal} → unwritten q ≡ roomed (length o) at n → Writes F s x at o (unwritten q) o
  unfolding roomed
  off_at e = off-by (leb at (length o)) (leb (at + n) (length o)) refl refl e

  -- there was no room
  pub room-off : {w : Result ℕ Refusal} {q : Refusal} → view_wrote w ≡ roomed (length o) at n → w ≡ Err q → Writes F s x at o (unwritten q) o
  room-off e f = off_at (sym (ap view_wrote f) ∙ e)

-- a writer with no pieces
module _ {M : Type 0} (C : Codec M) (small : (x : M) → length (C.kind.write x) ≤ most) (x : M) (at : ℕ) (o : List ℕ) (w : Result ℕ Refusal) (n : ℕ) where
  pub plain-off : (q : Refusal) → n ≡ length (C.kind.write x) → view_wrote w ≡ roomed (length o) at n → w ≡ Err q
      → Writes (exactly C) [] x at o (unwritten q) o
  plain-off q l e f = room-off (exactly C) [] x (sym l) (no_pieces C x) (omega (arith, small x)) at o e f

-- a kind of a fixed size
module _ {M : Type 0} {k : ℕ} {C : Codec M} (F : Fixed k C) where
  module _ (x : M) (at : ℕ) (o : List ℕ) (w : Result ℕ Refusal) where
    pub fixed_off : (q : Refusal) → view_wrote w ≡ roomed (length o) at k → w ≡ Err q → k ≤ most → Writes (exactly C) [] x at o (unwritten q) o
    fixed_off q e f s = plain-off C (λ x. omega (arith, F.writes x)) x at o w k q (size_is F x) e f

-- eight bytes, held as the number that they write
module _ (v at : ℕ) (o : List ℕ) (w : Result ℕ Refusal) where
  pub eight-off : (q : Refusal) → v < 18446744073709551616 → view_wrote w ≡ roomed (length o) at 8 → w ≡ Err q → Writes eight_bytes [] v at o (unwritten q) o
  unfolding eight_held
  eight-off q h e f = room-off eight_bytes [] v (eight-length v h) (eight-ready v at o w) (omega arith) at o e f
