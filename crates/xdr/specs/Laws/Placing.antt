-- The order in which a public writer refuses, once for every kind: by the length of the source, whether the pieces lie inside it, the size of
-- the encoding, the length of the buffer, and the place.
-- Assumes nothing.
use Rattle.std.specs.Prelude.{◌≡◌, refl, Bool, List, ℕ, ◌+◌, ◌-◌, ◌≤◌, ◌<◌, leb, length}
use Rattle.std.proofs.Common.{sym, ap, ap₂, subst, ◌∙◌}
use Rattle.std.proofs.Math.Bool.{true, false}
use native.Mathlib.Omega.{arith}
use borrow.Author.Tests.{le-leb, lt-leb, leb-true}
use borrow.Rule.Slice.PartMut.{mid_of, put_mid}
use Rattle.xdr.specs.Meaning.Answer.{most, Written, done, unwritten}
use Rattle.xdr.specs.Meaning.Order.{placing}
use Rattle.xdr.specs.Meaning.Format.{Format}
use Rattle.xdr.specs.Meaning.Public.{output, writing, Writes, laid_of}
use Rattle.xdr.specs.Laws.Write.{Put, Ready, Done, was-done, writes-done, room_at, put-laid-of}
use Rattle.xdr.specs.declared.refusal.Refusal.TheVariants.{TooLong, Outside, NoRoom, PastEnd}
use Rattle.xdr.specs.declared.refusal.Refusal.{Refusal}

module _ (source : ℕ) (inside : Bool) (size room at : ℕ) where
  pub placing-past : room < at → unwritten PastEnd ≡ placing source inside size room at
  unfolding placing
  placing-past h = simp (lt-leb at room h)

  module _ (h : at ≤ room) where
    pub placing-long : most < source → unwritten TooLong ≡ placing source inside size room at
    unfolding placing
    placing-long g = simp (le-leb at room h, lt-leb source most g)

    module _ (g : source ≤ most) where
      pub placing-outside : inside ≡ false → unwritten Outside ≡ placing source inside size room at
      unfolding placing
      placing-outside i = simp (le-leb at room h, le-leb source most g, i)

      module _ (i : inside ≡ true) where
        pub placing-large : most < size → unwritten TooLong ≡ placing source inside size room at
        unfolding placing
        placing-large l = simp (le-leb at room h, le-leb source most g, i, lt-leb size most l)

        module _ (l : size ≤ most) where
          pub placing-short : room - at < size → unwritten (NoRoom size) ≡ placing source inside size room at
          unfolding placing
          placing-short r =
              let k : room < at + size = omega arith in
              simp (le-leb at room h, le-leb source most g, i, le-leb size most l, lt-leb (at + size) room k)

          pub placing-done : size ≤ room - at → done (at + size) ≡ placing source inside size room at
          unfolding placing
          placing-done r =
              let k : at + size ≤ room = omega arith in
              simp (le-leb at room h, le-leb source most g, i, le-leb size most l, le-leb (at + size) room k)

-- by what the code found of the pieces and the size
pub placing-as : (source room at : ℕ) {w : Written} {i j : Bool} {m n : ℕ} → w ≡ placing source i m room at → i ≡ j → m ≡ n
    → w ≡ placing source j n room at
placing-as source room at e f g = e ∙ ap₂ (λ i n. placing source i n room at) f g

-- a public writer that refuses in that order, where n is the size of what is written if the source and the pieces are in order
module _ {M S : Type 0} (F : Format M S) (s : List ℕ) (x : S) {n : ℕ} (l : Ready F s x → length (output F s x) ≡ n) (at : ℕ) (o : List ℕ)
    {w : Written} (e : w ≡ placing (length s) (F.held.inside s x) n (length o) at) where
  same : (t u : Bool) → leb (length s) most ≡ t → F.held.inside s x ≡ u
      → placing (length s) (F.held.inside s x) n (length o) at ≡ writing F s x at (length o)
  unfolding placing writing
  same false u ht hu = simp ht
  same true false ht hu = simp (ht, hu)
  same true true ht hu = rw (l (record { short = leb-true (length s) most ht; inside = hu }))

  pub says : w ≡ writing F s x at (length o)
  says = e ∙ same (leb (length s) most) (F.held.inside s x) refl refl

  -- it refused
  pub refuses : {r : Refusal} → w ≡ unwritten r → Writes F s x at o w o
  refuses {r} f = subst (λ z. Writes F s x at o z o) (sym f) (record { says = sym f ∙ says; leaves = refl; good = tt })

  -- it has place
  module _ {k : ℕ} (f : w ≡ done k) where
    placed : Done F s x at o k
    placed = was-done F s x at o (sym f ∙ says)

    pub ready : Ready F s x
    ready = record { short = placed.short; inside = placed.inside }

    pub at_place : at ≤ length o
    at_place = placed.place

    pub has_room : n ≤ length (mid_of at (length o - at) o)
    has_room = let d = placed in room_at o at n (omega (arith, l ready))

    pub wrote : F.codec.kind.Good (F.held.mean s x) → {zs : List ℕ} → Put (mid_of at (length o - at) o) zs n (output F s x)
        → Writes F s x at o w (put_mid at (length o - at) o zs)
    wrote good {zs} p =
        let d = placed in
        let q : k ≡ at + n = omega (arith, l ready) in
        subst (λ z. Writes F s x at o z (put_mid at (length o - at) o zs)) (sym (f ∙ ap done q))
        (writes-done F s x at o d.place d.short d.inside d.small good (omega (arith, l ready)) p)

    pub wrote_of : F.codec.kind.Good (F.held.mean s x) → {zs : List ℕ} → zs ≡ laid_of F s x (mid_of at (length o - at) o)
        → Writes F s x at o w (put_mid at (length o - at) o zs)
    wrote_of good g = wrote good (put-laid-of F s x ready (l ready) has_room g)
