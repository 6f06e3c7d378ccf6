-- Writing under a bound: as without it, where the bound is kept; and what it refuses.
-- Assumes nothing.
use Rattle.std.specs.Prelude.{◌≡◌, Bool, List, ℕ, ◌+◌, length}
use Rattle.std.proofs.Math.Path.{refl, sym}
use Rattle.std.proofs.Common.{ap, subst, ◌∙◌}
use Rattle.std.proofs.Math.Bool.{true, false}
use Rattle.std.proofs.Math.Option.{Option, none}
use native.Mathlib.Omega.{arith}
use Rattle.std.proofs.Math.Dec.{leb}
use Rattle.xdr.specs.Meaning.Answer.{took, most, Written, done, unwritten}
use Rattle.xdr.specs.Meaning.Order.{placing, bounding}
use Rattle.xdr.specs.Meaning.Format.{Format}
use Rattle.xdr.specs.Meaning.Lists.{bounded}
use Rattle.xdr.specs.Meaning.Public.{output, writing, leaving, InRange, Answers, Writes}
use Rattle.xdr.specs.Meaning.Within.{is_within, WritesWithin}
use Rattle.xdr.specs.Laws.Public.{kept}
use Rattle.xdr.specs.declared.refusal.Refusal.{Refusal}
use Rattle.xdr.specs.declared.refusal.Refusal.TheVariants.{TooLong, Outside, PastEnd, LongPath}

no : {P : Type 0} {n : ℕ} {r : Refusal} → done n ≡ unwritten r → P
no e = let z : ◌≡◌ {A = ℕ} 0 1 = cc in absurd (omega arith)

module _ {M S : Type 0} (F : Format M S) (over : M → Option ℕ) (s : List ℕ) (x : S) (at : ℕ) (o : List ℕ) where
  in_range : (w : Written) → over (F.held.mean s x) ≡ none → InRange F s x w → InRange (bounded F over) s x w
  in_range (done n) h g = (g, h)
  in_range (unwritten r) h g = tt

  -- where nothing is over the bound, it is written as without one
  pub within-as : {w : Written} {o' : List ℕ} → over (F.held.mean s x) ≡ none → Writes F s x at o w o' → WritesWithin F over s x at o w o'
  unfolding writing placing bounding
  within-as {w} h c = record { says = c.says ∙ sym (simp h); leaves = c.leaves; good = in_range w h c.good }

  -- and what is written is under it
  pub was-within : {n : ℕ} {o' : List ℕ} → WritesWithin F over s x at o (done n) o' → over (F.held.mean s x) ≡ none
  was-within c = c.good.1

  pub within-writes : {w : Written} {o' : List ℕ} → over (F.held.mean s x) ≡ none → WritesWithin F over s x at o w o' → Writes (bounded F over) s x at o w o'
  unfolding writing placing bounding
  within-writes {w} {o'} h c = record { says = c.says ∙ simp h; leaves = c.leaves ∙ same w; good = c.good }
    where
      same : (v : Written) → leaving F s x v at o ≡ leaving (bounded F over) s x v at o
      same (done n) = refl
      same (unwritten r) = refl

  -- two answers that the contract permits are one, and so are the buffers
  pub one-within : {v w : Written} {p q : List ℕ} → WritesWithin F over s x at o v p → WritesWithin F over s x at o w q → (v ≡ w) × (p ≡ q)
  one-within c d =
      (c.says ∙ sym d.says, c.leaves ∙ ap (λ z. leaving F s x z at o) (c.says ∙ sym d.says) ∙ sym d.leaves)

  -- what is over the bound: refused as a message of no bytes is, and with 10 where that would be written
  module _ {w : Written} (e : w ≡ placing (length s) (F.held.inside s x) 0 (length o) at)
      (over-bound : F.held.inside s x ≡ true → is_within (over (F.held.mean s x)) ≡ false) where
    pub over-refused : {r : Refusal} → w ≡ unwritten r → WritesWithin F over s x at o (unwritten r) o
    unfolding placing bounding
    over-refused {r} f = record { says = go (leb at (length o)) refl (leb (length s) most) refl (F.held.inside s x) refl; leaves = refl; good = tt }
      where
        room : leb at (length o) ≡ true → leb (at + 0) (length o) ≡ true
        room h = rw (omega_zero at) h
          where
            omega_zero : (n : ℕ) → n + 0 ≡ n
            omega_zero n = omega arith

        go : (a : Bool) → leb at (length o) ≡ a → (b : Bool) → leb (length s) most ≡ b → (c : Bool) → F.held.inside s x ≡ c
            → unwritten r ≡ bounding (length s) (F.held.inside s x) (is_within (over (F.held.mean s x))) (length (output F s x)) (length o) at
        go false ha b hb c hc = sym f ∙ e ∙ simp ha
        go true ha false hb c hc = sym f ∙ e ∙ simp (ha, hb)
        go true ha true hb false hc = sym f ∙ e ∙ simp (ha, hb, hc)
        go true ha true hb true hc =
            let g : ◌≡◌ {A = Written} (unwritten r) (done (at + 0)) = sym f ∙ e ∙ simp (ha, hb, hc, room ha) in
            no (sym g)

    pub over_done : {n : ℕ} → w ≡ done n → WritesWithin F over s x at o (unwritten (LongPath 0)) o
    unfolding placing bounding
    over_done {n} f = record { says = go (leb at (length o)) refl (leb (length s) most) refl (F.held.inside s x) refl; leaves = refl; good = tt }
      where
        go : (a : Bool) → leb at (length o) ≡ a → (b : Bool) → leb (length s) most ≡ b → (c : Bool) → F.held.inside s x ≡ c
            → unwritten (LongPath 0) ≡ bounding (length s) (F.held.inside s x) (is_within (over (F.held.mean s x))) (length (output F s x)) (length o) at
        go false ha b hb c hc = no {r = PastEnd} (sym f ∙ e ∙ simp ha)
        go true ha false hb c hc = no {r = TooLong} (sym f ∙ e ∙ simp (ha, hb))
        go true ha true hb false hc = no {r = Outside} (sym f ∙ e ∙ simp (ha, hb, hc))
        go true ha true hb true hc = sym (simp (ha, hb, hc, over-bound hc))

-- a kind that is another under a bound
pub record Bounded {M S : Type 0} (F : Format M S) (over : M → Option ℕ) (G : Format M S) : Type 1 where
  pub is : G ≡ bounded F over

-- what was read of it is under the bound, and is written as any other message is
module _ {M S : Type 0} {F : Format M S} {over : M → Option ℕ} {G : Format M S} (B : Bounded F over G) (s : List ℕ) (p : ℕ) {x : S} {n : ℕ} {b : Bool}
    (c : Answers G s p (took x n b)) where
  pub read-within : over (F.held.mean s x) ≡ none
  read-within =
      let d : Answers (bounded F over) s p (took x n b) = subst (λ H. Answers H s p (took x n b)) B.is c in
      ((kept (bounded F over)).in_range (record { source = s; place = p; value = x; next = n; plain = b; answers = d })).1
