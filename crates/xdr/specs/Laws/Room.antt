-- A public writer's test of room, and what it answers by it.
-- Assumes nothing.
use Rattle.std.specs.Prelude.{◌≡◌, Bool, true, false, cond, List, ℕ, ◌+◌, ◌-◌, ◌<◌, ◌≤◌, leb, length, Result, Ok}
use Rattle.std.proofs.Math.Path.{refl}
use Rattle.std.proofs.Common.{sym, ap, subst, ◌∙◌, arith}
use borrow.Author.Tests.{leb-true, le-leb, lt-leb}
use borrow.Rule.Slice.PartMut.{mid_of, put_mid}
use Rattle.xdr.specs.Meaning.Answer.{most, done, unwritten}
use Rattle.xdr.specs.Meaning.Order.{roomed}
use Rattle.xdr.specs.Meaning.Format.{Format}
use Rattle.xdr.specs.Meaning.Public.{output, Writes, laid}
use Rattle.xdr.specs.Meaning.Views.{view_wrote}
use Rattle.xdr.specs.Laws.Write.{Ready, sized-done}
use Rattle.xdr.specs.declared.refusal.Refusal.{Refusal}
use Rattle.xdr.specs.declared.refusal.Refusal.TheVariants.{NoRoom, PastEnd}

module _ (len at size : ℕ) where
  pub room-past : len < at → unwritten PastEnd ≡ roomed len at size
  unfolding roomed
  room-past h = simp (lt-leb at len h)

  pub room-short : at ≤ len → len - at < size → unwritten (NoRoom size) ≡ roomed len at size
  unfolding roomed
  room-short h k = simp (le-leb at len h, lt-leb (at + size) len (omega arith))

  pub room_fits : at ≤ len → size ≤ len - at → done (at + size) ≡ roomed len at size
  unfolding roomed
  room_fits h k = simp (le-leb at len h, le-leb (at + size) len (omega arith))

  pub record Fits (n : ℕ) : Type 0 where
    pub room : at + size ≤ len
    pub next : at + size ≡ n

  fits_by : {n : ℕ} (a b : Bool) → leb at len ≡ a → leb (at + size) len ≡ b → done n ≡ cond a (cond b (done (at + size)) (unwritten (NoRoom size))) (unwritten PastEnd)
      → Fits n
  fits_by true true e f g = record { room = leb-true (at + size) len f; next = cc }
  fits_by true false e f g = let z : ◌≡◌ {A = ℕ} 0 1 = cc in absurd (omega arith)
  fits_by false b e f g = let z : ◌≡◌ {A = ℕ} 0 1 = cc in absurd (omega arith)

  pub fits : {n : ℕ} → done n ≡ roomed len at size → Fits n
  unfolding roomed
  fits e = fits_by (leb at len) (leb (at + size) len) refl refl e

  -- where the answer was taken apart
  pub room_in : {w : Result ℕ Refusal} {n : ℕ} → view_wrote w ≡ roomed len at size → w ≡ Ok n → Fits n
  room_in e f = fits (sym (ap view_wrote f) ∙ e)

module _ {M S : Type 0} (F : Format M S) (s : List ℕ) (x : S) {n : ℕ} (l : length (output F s x) ≡ n) (r : Ready F s x) (k : n ≤ most) (at : ℕ) (o : List ℕ) where
  -- there was room, and the message was laid
  module _ (good : F.codec.kind.Good (F.held.mean s x)) {w : Result ℕ Refusal} {m : ℕ} (e : view_wrote w ≡ roomed (length o) at n) (f : w ≡ Ok m) {zs : List ℕ} where
    pub room-laid : zs ≡ laid (output F s x) (mid_of at (length o - at) o) → Writes F s x at o (done m) (put_mid at (length o - at) o zs)
    room-laid g =
        let h = room_in (length o) at n e f in
        let y : at + n ≤ length o = h.room in
        let z : done (at + n) ≡ done m = ap done h.next in
        subst (λ w. Writes F s x at o w (put_mid at (length o - at) o zs)) z (sized-done F s x l r at o (omega arith) k good (omega arith) g)
