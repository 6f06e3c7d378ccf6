-- A lawful kind under a bound is lawful.
-- Assumes nothing.
use Rattle.std.specs.Prelude.{◌≡◌, refl, ◌⊎◌, Bool, true, List, ◌++◌, ℕ, ◌≤◌, ◌<◌, length}
use Rattle.std.proofs.Common.{sym, ap, subst, ◌∙◌, inl, inr, arith}
use Rattle.std.proofs.Math.Option.{Option, none, some}
use Rattle.xdr.specs.Meaning.Bytes.{Bytes}
use Rattle.xdr.specs.Meaning.Refusal.{OfReading, TooFew, less_by}
use Rattle.xdr.specs.Meaning.Answer.{Answer, took, refused, map_answer, Taken, Reaches, Came}
use Rattle.xdr.specs.Meaning.Kind.{Kind, Found, Sound, Lawful, Codec}
use Rattle.xdr.specs.Meaning.Held.{Held}
use Rattle.xdr.specs.Laws.Lists.{stands-grow}
use Rattle.xdr.specs.Laws.Cuts.{came-by}
use Rattle.xdr.specs.declared.refusal.Refusal.{Refusal}
use Rattle.xdr.specs.declared.refusal.Refusal.TheVariants.{Ended, LongPath}
use Rattle.xdr.specs.Meaning.Bounded.{capped, cap, Exceeds, bounded_kind}

apart : {P : Type 0} {p q w : ℕ} → Ended q w ≡ LongPath p → P
apart e = let z : ◌≡◌ {A = ℕ} 0 1 = cc in absurd (omega arith)

module _ {M : Type 0} (K : Kind M) (over : M → Option ℕ) (L : Lawful K) where
  sound₂ : (s : List ℕ) (p : ℕ) (m : M) (n : ℕ) (b : Bool) → Found K s p m n b → (o : Option ℕ) → over m ≡ o
      → Sound (bounded_kind K over) s p (capped p m n b o)
  sound₂ s p m n b f none e =
      record { loose = f.loose; used = f.used; left = f.left; stands = f.stands; next = f.next; form = (f.form, e); plain = f.plain }
  sound₂ s p m n b f (some k) e =
      inr
      (record {
        message = m;
        loose = f.loose;
        used = f.used;
        left = f.left;
        form = f.form;
        stands = f.stands;
        offset = k;
        exceeds = e;
        is = refl;
      })

  sound₁ : (s : List ℕ) (p : ℕ) (x : Answer M) → Sound K s p x → Sound (bounded_kind K over) s p (cap over p x)
  sound₁ s p (took m n b) f = sound₂ s p m n b f (over m) refl
  sound₁ s p (refused r) f = inl f

  refuses : (s : List ℕ) (p : ℕ) (r : Refusal) → K.Fault s p r ⊎ Exceeds K over s p r → cap over p (K.read s p) ≡ refused r
  refuses s p r (inl f) = rw (L.refuses s p r f)
  refuses s p r (inr f) = simp (L.complete f.message f.loose f.used f.left s p f.form f.stands, f.exceeds, f.is)

  numbered : (s : List ℕ) (p : ℕ) (r : Refusal) → K.Fault s p r ⊎ Exceeds K over s p r → OfReading r
  numbered s p r (inl f) = L.numbered s p r f
  numbered s p r (inr f) = subst OfReading (sym f.is) tt

  ended : (s : List ℕ) (p q w : ℕ) → p ≤ length s → K.Fault s p (Ended q w) ⊎ Exceeds K over s p (Ended q w) → (p ≤ q) × (q ≤ length s) × (0 < w)
  ended s p q w h (inl f) = L.ended s p q w h f
  ended s p q w h (inr f) = apart f.is

  few : (s t : List ℕ) (p : ℕ) (r : Refusal) → p ≤ length s → K.Fault s p r ⊎ Exceeds K over s p r → TooFew (length t) r
      → K.Fault (s ++ t) p (less_by (length t) r) ⊎ Exceeds K over (s ++ t) p (less_by (length t) r)
  few s t p r h (inl f) g = inl (L.few s t p r h f g)
  few s t p r h (inr f) g =
      inr
      (record {
        message = f.message;
        loose = f.loose;
        used = f.used;
        left = f.left ++ t;
        form = f.form;
        stands = stands-grow f.used f.left s t p h f.stands;
        offset = f.offset;
        exceeds = f.exceeds;
        is = ap (less_by (length t)) f.is;
      })

  reach₂ : (p k n : ℕ) (m : M) (b : Bool) (o : Option ℕ) → k ≡ n → Reaches n (capped p m k b o)
  reach₂ p k n m b none e = e
  reach₂ p k n m b (some i) e = λ q w i. apart (sym i)

  reach₁ : (p n : ℕ) (x : Answer M) → Reaches n x → Reaches n (cap over p x)
  reach₁ p n (took m k b) e = reach₂ p k n m b (over m) e
  reach₁ p n (refused r) e = e

  enough : (s t : List ℕ) (p q w : ℕ) → p ≤ length s → Bytes (s ++ t) → K.Fault s p (Ended q w) ⊎ Exceeds K over s p (Ended q w) → length t ≡ w
      → Came s t q (cap over p (K.read (s ++ t) p))
  enough s t p q w h b (inl f) e =
      came-by (cap over p) s t (reach₁ p (length (s ++ t))) (λ r. refl) q (K.read (s ++ t) p) (L.enough s t p q w h b f e)
  enough s t p q w h b (inr f) e = apart f.is

  pub bounded-lawful : Lawful (bounded_kind K over)
  bounded-lawful =
      record {
        sound = λ s p h. sound₁ s p (K.read s p) (L.sound s p h);
        complete = λ m w e t s p f h. simp (L.complete m w e t s p f.0 h, f.1);
        refuses = refuses;
        numbered = numbered;
        alike = λ m m' w w' e f f'. L.alike m m' w w' e f.0 f'.0;
        good = λ m w e f. (L.good m w e f.0, f.1);
        written = λ m g. (L.written m g.0, g.1);
        plain = λ m e f. L.plain m e f.0;
        ended = ended;
        few = few;
        enough = enough;
      }

-- what is held under the bound
module _ {M S : Type 0} (C : Codec M) (over : M → Option ℕ) (H : Held C S) (s : List ℕ) (p : ℕ) where
  agree₂ : (x : S) (n : ℕ) (b : Bool) (o : Option ℕ) → capped p (H.mean s x) n b o ≡ map_answer (H.mean s) (capped p x n b o)
  agree₂ x n b none = refl
  agree₂ x n b (some k) = refl

  agree₁ : (z : Answer S) → cap over p (map_answer (H.mean s) z) ≡ map_answer (H.mean s) (cap (λ x. over (H.mean s x)) p z)
  agree₁ (took x n b) = agree₂ x n b (over (H.mean s x))
  agree₁ (refused r) = refl

  pub bounded-agrees : cap over p (C.kind.read s p) ≡ map_answer (H.mean s) (cap (λ x. over (H.mean s x)) p (H.read s p))
  bounded-agrees = ap (cap over p) (H.agrees s p) ∙ agree₁ (H.read s p)

  kept₂ : (x : S) (n : ℕ) (b : Bool) (o : Option ℕ) → H.inside s x ≡ true → Taken (λ x. H.inside s x ≡ true) (capped p x n b o)
  kept₂ x n b none h = h
  kept₂ x n b (some k) h = tt

  kept₁ : (z : Answer S) → Taken (λ x. H.inside s x ≡ true) z → Taken (λ x. H.inside s x ≡ true) (cap (λ x. over (H.mean s x)) p z)
  kept₁ (took x n b) h = kept₂ x n b (over (H.mean s x)) h
  kept₁ (refused r) h = tt

  pub bounded-kept : Taken (λ x. H.inside s x ≡ true) (cap (λ x. over (H.mean s x)) p (H.read s p))
  bounded-kept = kept₁ (H.read s p) (H.kept s p)
