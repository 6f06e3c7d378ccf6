-- A public writer that asks for a place and then has its bytes put there: its needs in the shape of its goals, so that `search` closes each.
-- The facts are those of the calls of `place`, `X_inside`, `X_size` and `put_X`, where `put_X` asks for room and says what it put.
-- Assumes nothing.
use Rattle.std.proofs.Math.Path.{◌≡◌, refl}
use Rattle.std.proofs.Common.{sym, ap, ◌∙◌, arith, leb-true, Fits, subst}
use Rattle.std.specs.Prelude.{Bool, true, false, List, [], ℕ, ◌+◌, ◌-◌, ◌≤◌, leb, length, get_or, Result, Ok, Err}
use borrow.Rule.Slice.PartMut.{mid_of, put_mid}
use Rattle.std.specs.Int.{w8}
use Rattle.xdr.specs.Meaning.Bytes.{Bytes}
use Rattle.xdr.specs.Meaning.Answer.{most, done, unwritten}
use Rattle.xdr.specs.Meaning.Kind.{Codec}
use Rattle.xdr.specs.Meaning.Order.{placing}
use Rattle.xdr.specs.Meaning.Format.{Format, exactly}
use Rattle.xdr.specs.Meaning.Public.{output, Writes}
use Rattle.xdr.specs.Meaning.Views.{view_wrote}
use Rattle.xdr.specs.Laws.Lists.{known_bytes}
use Rattle.xdr.specs.Laws.Write.{Put, Ready, room_at}
use Rattle.xdr.specs.Laws.Placing.{placing-as, refuses, ready, wrote}
use Rattle.xdr.specs.declared.refusal.Refusal.{Refusal}
use Rattle.xdr.specs.declared.refusal.Refusal.TheVariants.{PastEnd, TooLong, Outside}

-- how long a kind is written, once
pub record Sized {M S : Type 0} (F : Format M S) (size : S → ℕ) : Type 0 where
  pub long : (s : List ℕ) (x : S) → Bytes s → Ready F s x → length (output F s x) ≡ size x

-- there is a place, by lengths alone
module _ (source : ℕ) (i : Bool) (m len at : ℕ) (w : Result ℕ Refusal) (k : ℕ) (e : view_wrote w ≡ placing source i m len at) (f : w ≡ Ok k) where
  pub record Placed : Type 0 where
    pub starts : at ≤ len
    pub short : source ≤ most
    pub inside : i ≡ true
    pub small : m ≤ most
    pub ends : at + m ≤ len
    pub next : k ≡ at + m

  pub placed : Placed
  unfolding placing
  placed =
      go (leb at len) refl (leb source most) refl i refl (leb m most) refl (leb (at + m) len) refl (sym (ap view_wrote f) ∙ e)
    where
      no : {r : Refusal} → done k ≡ unwritten r → Placed
      no g = let z : ◌≡◌ {A = ℕ} 0 1 = cc in absurd (omega arith)

      go : (a : Bool) → leb at len ≡ a → (b : Bool) → leb source most ≡ b → (c : Bool) → i ≡ c → (d : Bool) → leb m most ≡ d
          → (r : Bool) → leb (at + m) len ≡ r → done k ≡ placing source i m len at → Placed
      go false ha b hb c hc d hd r hr g = no {r = PastEnd} (simp ha at g)
      go true ha false hb c hc d hd r hr g = no {r = TooLong} (simp (ha, hb) at g)
      go true ha true hb false hc d hd r hr g = no {r = Outside} (simp (ha, hb, hc) at g)
      go true ha true hb true hc false hd r hr g = no {r = TooLong} (simp (ha, hb, hc, hd) at g)
      go true ha true hb true hc true hd false hr g = no (simp (ha, hb, hc, hd, hr) at g)
      go true ha true hb true hc true hd true hr g =
          let z : done k ≡ done (at + m) = simp (ha, hb, hc, hd, hr) at g in
          record {
            starts = leb-true at len ha;
            short = leb-true source most hb;
            inside = hc;
            small = leb-true m most hd;
            ends = leb-true (at + m) len hr;
            next = cc z;
          }

  pub place_at : at ≤ len
  place_at = placed.starts

module _ (source : ℕ) (i : Bool) (m at : ℕ) (o : List ℕ) (w : Result ℕ Refusal) (k n : ℕ) where
  pub place-room : view_wrote w ≡ placing source i m (length o) at → w ≡ Ok k → m ≡ n → n ≤ length (mid_of at (length o - at) o)
  place-room e f g = room_at o at n (omega (arith, (placed source i m (length o) at w k e f).ends))

module _ {M S : Type 0} {F : Format M S} (s : List ℕ) (x : S) (i : Bool) (m len at : ℕ) (w : Result ℕ Refusal) (k : ℕ) where
  pub place-ready : view_wrote w ≡ placing (length s) i m len at → w ≡ Ok k → i ≡ F.held.inside s x → Ready F s x
  place-ready e f g = let d = placed (length s) i m len at w k e f in record { short = d.short; inside = sym g ∙ d.inside }

-- what the writer leaves
module _ {M S : Type 0} {F : Format M S} (size : S → ℕ) (Z : Sized F size) (s : List ℕ) (x : S) (at : ℕ) (o : List ℕ) (w : Result ℕ Refusal) (i : Bool) (m : ℕ) where
  pub put-off : (q : Refusal) → view_wrote w ≡ placing (length s) i m (length o) at → i ≡ F.held.inside s x → m ≡ size x
      → ((j : ℕ) → Fits w8 (get_or s j 0)) → w ≡ Err q → Writes F s x at o (unwritten q) o
  put-off q e f g given h =
      subst (λ z. Writes F s x at o z o) (ap view_wrote h)
      (refuses F s x (Z.long s x (known_bytes s given)) at o (placing-as (length s) (length o) at e f g) (ap view_wrote h))

  pub put_on : (k : ℕ) (zs : List ℕ) → view_wrote w ≡ placing (length s) i m (length o) at → i ≡ F.held.inside s x → m ≡ size x
      → ((j : ℕ) → Fits w8 (get_or s j 0)) → w ≡ Ok k → Put (mid_of at (length o - at) o) zs (size x) (output F s x)
      → (Bytes s → length s ≤ most → F.held.inside s x ≡ true → F.codec.kind.Good (F.held.mean s x))
      → Writes F s x at o (done k) (put_mid at (length o - at) o zs)
  put_on k zs e f g given h p good =
      let b = known_bytes s given in
      let a = placing-as (length s) (length o) at e f g in
      let r = ready F s x (Z.long s x b) at o a (ap view_wrote h) in
      subst (λ z. Writes F s x at o z (put_mid at (length o - at) o zs)) (ap view_wrote h)
      (wrote F s x (Z.long s x b) at o a (ap view_wrote h) (good b r.short r.inside) p)

-- the same of a kind with no pieces
module _ {M : Type 0} {C : Codec M} (size : M → ℕ) (Z : Sized (exactly C) size) (x : M) (at : ℕ) (o : List ℕ) (w : Result ℕ Refusal) (m : ℕ) where
  pub plain-put-off : (q : Refusal) → view_wrote w ≡ placing 0 true m (length o) at → m ≡ size x → w ≡ Err q
      → Writes (exactly C) [] x at o (unwritten q) o
  plain-put-off q e g h =
      subst (λ z. Writes (exactly C) [] x at o z o) (ap view_wrote h)
      (refuses (exactly C) [] x (Z.long [] x tt) at o (placing-as 0 (length o) at e refl g) (ap view_wrote h))

  pub plain-put-on : (k : ℕ) (zs : List ℕ) → view_wrote w ≡ placing 0 true m (length o) at → m ≡ size x → w ≡ Ok k
      → Put (mid_of at (length o - at) o) zs (size x) (C.kind.write x) → C.kind.Good x
      → Writes (exactly C) [] x at o (done k) (put_mid at (length o - at) o zs)
  plain-put-on k zs e g h p good =
      subst (λ z. Writes (exactly C) [] x at o z (put_mid at (length o - at) o zs)) (ap view_wrote h)
      (wrote (exactly C) [] x (Z.long [] x tt) at o (placing-as 0 (length o) at e refl g) (ap view_wrote h) good p)

pub ruleset putting = (place_at, place-room, place-ready, put-off, put_on, plain-put-off, plain-put-on)
