-- Bytes that stand together and are cut short, and what appending bytes changes.
-- Assumes nothing.
use Rattle.std.specs.Prelude.{◌≡◌, List, ◌++◌, ℕ, ◌+◌, ◌-◌, ◌≤◌, ◌<◌, length}
use Rattle.std.proofs.Common.{ap, subst, ◌∙◌, inl, inr, arith, length-append}
use Rattle.xdr.specs.Meaning.Refusal.{TooFew, less_by, Cut}
use Rattle.xdr.specs.Meaning.Answer.{Answer, took, refused, Reaches, Came}
use Rattle.xdr.specs.Meaning.Kind.{Kind, Sound, Lawful}
use Rattle.xdr.specs.Laws.Lists.{room}
use Rattle.xdr.specs.declared.refusal.Refusal.{Refusal}
use Rattle.xdr.specs.declared.refusal.Refusal.TheVariants.{Ended}

module _ (n : ℕ) where
  pub cut-ended : (s : List ℕ) (p q w : ℕ) → p ≤ length s → Cut n s p (Ended q w) → (p ≤ q) × (q ≤ length s) × (0 < w)
  cut-ended s p q w h c =
      let e : q ≡ p = cc c.is in
      let f : w ≡ n - (length s - p) = cc c.is in
      (omega arith, omega arith, omega (arith, c.short))

  pub cut-few : (s t : List ℕ) (p : ℕ) (r : Refusal) → p ≤ length s → Cut n s p r → TooFew (length t) r → Cut n (s ++ t) p (less_by (length t) r)
  cut-few s t p r h c g =
      let k : length t < n - (length s - p) = g p (n - (length s - p)) c.is in
      let l : length (s ++ t) ≡ length s + length t = length-append s t in
      let e : n - (length s - p) - length t ≡ n - (length (s ++ t) - p) = omega arith in
      record { is = ap (less_by (length t)) c.is ∙ ap (λ (i : ℕ). Ended p i) e; short = omega arith }

  -- with as many as are wanting, all n are there, and nothing behind them
  pub cut-whole : (s t : List ℕ) (p q w : ℕ) → p ≤ length s → Cut n s p (Ended q w) → length t ≡ w → (q ≡ p) × (p + n ≡ length (s ++ t))
  cut-whole s t p q w h c g =
      let e : q ≡ p = cc c.is in
      let f : w ≡ n - (length s - p) = cc c.is in
      (e, omega (arith, length-append s t, c.short))

-- what is read where the bytes end goes no further
pub at-end : {M : Type 0} (K : Kind M) (L : Lawful K) (s : List ℕ) (n : ℕ) → n ≡ length s → (y : Answer M) → Sound K s n y → Reaches (length s) y
at-end K L s n e (took m k b) f = omega (arith, f.next, room f.used f.left s n f.stands)
at-end K L s n e (refused r) f =
    λ q w i. omega (arith, L.ended s n q w (omega arith) (subst (K.Fault s n) i f))

-- what passes refusals on, and gets as far, keeps it
pub came-by : {A B : Type 0} (f : Answer A → Answer B) (s t : List ℕ) → ((x : Answer A) → Reaches (length (s ++ t)) x → Reaches (length (s ++ t)) (f x))
    → ((r : Refusal) → f (refused r) ≡ refused r) → (q : ℕ) (x : Answer A) → Came s t q x → Came s t q (f x)
came-by f s t g h q x (inl e) = inl (g x e)
came-by f s t g h q x (inr a) =
    inr (record { cut = a.cut; whole = a.whole; wanting = a.wanting; is = ap f a.is ∙ h (Ended q a.wanting) })
