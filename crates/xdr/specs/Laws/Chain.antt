-- One lawful kind after another is lawful.
-- Assumes nothing.
use Rattle.std.specs.Prelude.{◌≡◌, refl, ◌⊎◌, Bool, ◌&&◌, List, [], ◌++◌, ℕ, ◌+◌, ◌≤◌, ◌<◌, length}
use Rattle.std.proofs.Common.{sym, ap₂, subst, ◌∙◌, inl, inr, add_assoc, arith, length-append}
use Rattle.xdr.specs.Meaning.Bytes.{Bytes, Stands}
use Rattle.xdr.specs.Meaning.Refusal.{OfReading, TooFew, less_by}
use Rattle.xdr.specs.Meaning.Answer.{Answer, took, refused, Reaches, Came, Loose, shifted, clean}
use Rattle.xdr.specs.Meaning.Kind.{Kind, Found, Sound, Lawful}
use Rattle.xdr.specs.Meaning.Combinators.{first, second, Chained, Behind, chain_kind}
use Rattle.xdr.specs.Laws.Lists.{stands-append, stands-first, stands-second, stands-grow, stands-inside}
use Rattle.xdr.specs.Laws.Cuts.{at-end, came-by}
use Rattle.xdr.specs.Laws.Marks.{clean-append, clean-shifted, none_left, none_right, none-shifted}
use Rattle.xdr.specs.Laws.Parted.{parted, same-message}
use Rattle.xdr.specs.declared.refusal.Refusal.{Refusal}
use Rattle.xdr.specs.declared.refusal.Refusal.TheVariants.{Ended}

module _ {M : Type 0} {N : M → Type 0} (A : Kind M) (B : (a : M) → Kind (N a)) (LA : Lawful A) (LB : (a : M) → Lawful (B a)) where
  sound₂ : (s : List ℕ) (p : ℕ) (a : M) (n : ℕ) (b : Bool) → Found A s p a n b → (y : Answer (N a))
      → Sound (B a) s n y → Sound (chain_kind A B) s p (second A B a b y)
  sound₂ s p a n b f (refused r) g =
      inr (record { message = a; loose = f.loose; used = f.used; left = f.left; form = f.form; stands = f.stands; fault = rw f.next at g })
  sound₂ s p a n b f (took c n' b') g =
      record {
        loose = f.loose ++ shifted (length f.used) g.loose;
        used = f.used ++ g.used;
        left = g.left;
        stands = stands-append f.used f.left s p f.stands g.used g.left (rw f.next at g.stands);
        next = rw (length-append f.used g.used) (omega (arith, f.next, g.next));
        form = record { e₁ = f.used; e₂ = g.used; w₁ = f.loose; w₂ = g.loose; form₁ = f.form; form₂ = g.form; bytes = refl; loose = refl };
        plain =
            ap₂ (λ x y. x && y) f.plain (g.plain ∙ sym (clean-shifted (length f.used) g.loose))
            ∙ sym (clean-append f.loose (shifted (length f.used) g.loose));
      }

  sound₁ : (s : List ℕ) (p : ℕ) → Bytes s → (x : Answer M) → Sound A s p x → Sound (chain_kind A B) s p (first A B s x)
  sound₁ s p h (refused r) f = inl f
  sound₁ s p h (took a n b) f = sound₂ s p a n b f ((B a).read s n) ((LB a).sound s n h)

  chain-complete : (m : (a : M) × N a) (w : List Loose) (e t s : List ℕ) (p : ℕ) → Chained A B m w e → Stands e t s p
      → first A B s (A.read s p) ≡ took m (p + length e) (clean w)
  chain-complete m w e t s p f h =
      let h' : Stands (f.e₁ ++ f.e₂) t s p = rw f.bytes at h in
      simp (
        LA.complete m.0 f.w₁ f.e₁ (f.e₂ ++ t) s p f.form₁ (stands-first f.e₁ f.e₂ t s p h'),
        (LB m.0).complete m.1 f.w₂ f.e₂ t s (p + length f.e₁) f.form₂ (stands-second f.e₁ f.e₂ t s p h'),
        f.bytes,
        f.loose,
        clean-append,
        clean-shifted,
        length-append,
        add_assoc,
      )

  chain-plain : (m : (a : M) × N a) (e : List ℕ) → Chained A B m [] e → e ≡ A.write m.0 ++ (B m.0).write m.1
  chain-plain m e f =
      let f₁ : A.Form m.0 [] f.e₁ = rw (none_left f.w₁ (shifted (length f.e₁) f.w₂) f.loose) at f.form₁ in
      let f₂ : (B m.0).Form m.1 [] f.e₂ = rw (none-shifted (length f.e₁) f.w₂ (none_right f.w₁ (shifted (length f.e₁) f.w₂) f.loose)) at f.form₂ in
      f.bytes ∙ ap₂ (λ (x y : List ℕ). x ++ y) (LA.plain m.0 f.e₁ f₁) ((LB m.0).plain m.1 f.e₂ f₂)

  chain-refuses : (s : List ℕ) (p : ℕ) (r : Refusal) → A.Fault s p r ⊎ Behind A B s p r → first A B s (A.read s p) ≡ refused r
  chain-refuses s p r (inl f) = rw (LA.refuses s p r f)
  chain-refuses s p r (inr f) =
      rw (
        LA.complete f.message f.loose f.used f.left s p f.form f.stands,
        (LB f.message).refuses s (p + length f.used) r f.fault,
      )

  chain-numbered : (s : List ℕ) (p : ℕ) (r : Refusal) → A.Fault s p r ⊎ Behind A B s p r → OfReading r
  chain-numbered s p r (inl f) = LA.numbered s p r f
  chain-numbered s p r (inr f) = (LB f.message).numbered s (p + length f.used) r f.fault

  chain-alike : (m m' : (a : M) × N a) (w w' : List Loose) (e : List ℕ) → Chained A B m w e → Chained A B m' w' e → w ≡ w'
  chain-alike m m' w w' e f f' =
      let h : f.e₁ ++ f.e₂ ≡ f'.e₁ ++ f'.e₂ = sym f.bytes ∙ f'.bytes in
      let c = parted A LA.complete f.form₁ f'.form₁ h in
      let z : m ≡ m' = same-message (chain_kind A B) chain-complete f f' in
      let g₁ : A.Form m'.0 f'.w₁ f.e₁ = subst (A.Form m'.0 f'.w₁) (sym c.head) f'.form₁ in
      let k₂ : (B m'.0).Form m'.1 f'.w₂ f.e₂ = subst ((B m'.0).Form m'.1 f'.w₂) (sym c.tail) f'.form₂ in
      let g₂ : (B m.0).Form m.1 f'.w₂ f.e₂ = subst (λ (y : (a : M) × N a). (B y.0).Form y.1 f'.w₂ f.e₂) (sym z) k₂ in
      let w₁ : f.w₁ ≡ f'.w₁ = LA.alike m.0 m'.0 f.w₁ f'.w₁ f.e₁ f.form₁ g₁ in
      let w₂ : f.w₂ ≡ f'.w₂ = (LB m.0).alike m.1 m.1 f.w₂ f'.w₂ f.e₂ f.form₂ g₂ in
      f.loose ∙ ap₂ (λ x y. x ++ y) w₁ (ap₂ (λ (x : List ℕ) y. shifted (length x) y) c.head w₂) ∙ sym f'.loose

  -- appending bytes: a fault of the second stands behind a form of the first, which stays
  chain-ended : (s : List ℕ) (p q w : ℕ) → p ≤ length s → A.Fault s p (Ended q w) ⊎ Behind A B s p (Ended q w) → (p ≤ q) × (q ≤ length s) × (0 < w)
  chain-ended s p q w h (inl f) = LA.ended s p q w h f
  chain-ended s p q w h (inr f) =
      let k = stands-inside f.used f.left s p h f.stands in
      let g = (LB f.message).ended s (p + length f.used) q w k f.fault in
      (omega (arith, g.0), g.1, g.2)

  chain-few : (s t : List ℕ) (p : ℕ) (r : Refusal) → p ≤ length s → A.Fault s p r ⊎ Behind A B s p r → TooFew (length t) r
      → A.Fault (s ++ t) p (less_by (length t) r) ⊎ Behind A B (s ++ t) p (less_by (length t) r)
  chain-few s t p r h (inl f) g = inl (LA.few s t p r h f g)
  chain-few s t p r h (inr f) g =
      let k = stands-inside f.used f.left s p h f.stands in
      inr
      (record {
        message = f.message;
        loose = f.loose;
        used = f.used;
        left = f.left ++ t;
        form = f.form;
        stands = stands-grow f.used f.left s t p h f.stands;
        fault = (LB f.message).few s t (p + length f.used) r k f.fault g;
      })

  reach-second : (a : M) (b : Bool) (n : ℕ) (y : Answer (N a)) → Reaches n y → Reaches n (second A B a b y)
  reach-second a b n (took c k b') e = e
  reach-second a b n (refused r) e = e

  reach-first : (s : List ℕ) → Bytes s → (x : Answer M) → Reaches (length s) x → Reaches (length s) (first A B s x)
  reach-first s h (took a n b) e =
      reach-second a b (length s) ((B a).read s n) (at-end (B a) (LB a) s n e ((B a).read s n) ((LB a).sound s n h))
  reach-first s h (refused r) e = e

  chain-enough : (s t : List ℕ) (p q w : ℕ) → p ≤ length s → Bytes (s ++ t) → A.Fault s p (Ended q w) ⊎ Behind A B s p (Ended q w) → length t ≡ w
      → Came s t q (first A B (s ++ t) (A.read (s ++ t) p))
  chain-enough s t p q w h b (inl f) e =
      came-by (first A B (s ++ t)) s t (reach-first (s ++ t) b) (λ r. refl) q (A.read (s ++ t) p) (LA.enough s t p q w h b f e)
  chain-enough s t p q w h b (inr f) e =
      let n : ℕ = p + length f.used in
      let k = stands-inside f.used f.left s p h f.stands in
      let g = stands-grow f.used f.left s t p h f.stands in
      subst (λ x. Came s t q (first A B (s ++ t) x)) (sym (LA.complete f.message f.loose f.used (f.left ++ t) (s ++ t) p f.form g))
      (came-by (second A B f.message (clean f.loose)) s t (reach-second f.message (clean f.loose) (length (s ++ t))) (λ r. refl) q
      ((B f.message).read (s ++ t) n) ((LB f.message).enough s t n q w k b f.fault e))

  pub chain-lawful : Lawful (chain_kind A B)
  chain-lawful =
      record {
        sound = λ s p h. sound₁ s p h (A.read s p) (LA.sound s p h);
        complete = chain-complete;
        refuses = chain-refuses;
        numbered = chain-numbered;
        alike = chain-alike;
        good = λ m w e f. (LA.good m.0 f.w₁ f.e₁ f.form₁, (LB m.0).good m.1 f.w₂ f.e₂ f.form₂);
        written = λ m g.
            record {
              e₁ = A.write m.0;
              e₂ = (B m.0).write m.1;
              w₁ = [];
              w₂ = [];
              form₁ = LA.written m.0 g.0;
              form₂ = (LB m.0).written m.1 g.1;
              bytes = refl;
              loose = refl;
            };
        plain = chain-plain;
        ended = chain-ended;
        few = chain-few;
        enough = chain-enough;
      }
