-- A lawful kind, faithfully seen as another, is lawful.
-- Assumes nothing.
use Rattle.std.specs.Prelude.{◌≡◌, refl, ◌⊎◌, Bool, ◌&&◌, List, [], ◌++◌, ℕ, ◌+◌, ◌≤◌, ◌<◌, length}
use Rattle.std.proofs.Common.{sym, ap, ap₂, ◌∙◌, subst, inl, inr, arith}
use Rattle.xdr.specs.Meaning.Bytes.{Bytes, Stands}
use Rattle.xdr.specs.Meaning.Refusal.{OfReading, TooFew, less_by}
use Rattle.xdr.specs.Meaning.Answer.{Answer, took, refused, Reaches, Came, Loose, here, clean}
use Rattle.xdr.specs.Meaning.Kind.{Kind, Found, Sound, Lawful}
use Rattle.xdr.specs.Meaning.Combinators.{Seen, means, undeclared, Faithful, View, meant, look, Viewed, Unseen, view_kind}
use Rattle.xdr.specs.Laws.Lists.{stands-grow}
use Rattle.xdr.specs.Laws.Cuts.{came-by}
use Rattle.xdr.specs.Laws.Marks.{clean-append, clean-here, none_left, none_right, none_here}
use Rattle.xdr.specs.Laws.Parted.{same-message}
use Rattle.xdr.specs.declared.refusal.Refusal.{Refusal}
use Rattle.xdr.specs.declared.refusal.Refusal.TheVariants.{Ended, Undeclared}

apart : {P : Type 0} {p q w : ℕ} → Ended q w ≡ Undeclared p → P
apart e = let z : ◌≡◌ {A = ℕ} 0 1 = cc in absurd (omega arith)

module _ {M N : Type 0} (K : Kind M) (W : View M K.Good N) (L : Lawful K) where
  sound₂ : (s : List ℕ) (p : ℕ) (x : M) (n : ℕ) (b : Bool) → Found K s p x n b → (y : Seen N) → W.see x ≡ y
      → Sound (view_kind K W) s p (meant K W p n b y)
  sound₂ s p x n b f undeclared e =
      inr (record { of = x; loose = f.loose; used = f.used; left = f.left; form = f.form; stands = f.stands; sees = e; is = refl })
  sound₂ s p x n b f (means m w) e =
      record {
        loose = here w ++ f.loose;
        used = f.used;
        left = f.left;
        stands = f.stands;
        next = f.next;
        form = record { of = x; w₁ = f.loose; w₂ = w; form = f.form; sees = e; loose = refl };
        plain = ap₂ (λ x y. x && y) (sym (clean-here w)) f.plain ∙ sym (clean-append (here w) f.loose);
      }

  sound₁ : (s : List ℕ) (p : ℕ) (x : Answer M) → Sound K s p x → Sound (view_kind K W) s p (look K W p x)
  sound₁ s p (refused r) f = inl f
  sound₁ s p (took x n b) f = sound₂ s p x n b f (W.see x) refl

  view-complete : (m : N) (w : List Loose) (e t s : List ℕ) (p : ℕ) → Viewed K W m w e → Stands e t s p
      → look K W p (K.read s p) ≡ took m (p + length e) (clean w)
  view-complete m w e t s p f h = simp (L.complete f.of f.w₁ e t s p f.form h, f.sees, f.loose, clean-append, clean-here)

  view-faithful : (m : N) (w : List Loose) (e : List ℕ) (f : Viewed K W m w e) → W.Good m × (f.w₂ ≡ [] → W.to m ≡ f.of)
  view-faithful m w e f =
      subst (Faithful W.Good W.to f.of) f.sees (W.faithful f.of (L.good f.of f.w₁ e f.form))

  view-plain : (m : N) (e : List ℕ) → Viewed K W m [] e → e ≡ K.write (W.to m)
  view-plain m e f =
      let f₁ : K.Form f.of [] e = rw (none_right (here f.w₂) f.w₁ f.loose) at f.form in
      L.plain f.of e f₁ ∙ ap K.write (sym ((view-faithful m [] e f).1 (none_here f.w₂ (none_left (here f.w₂) f.w₁ f.loose))))

  view-refuses : (s : List ℕ) (p : ℕ) (r : Refusal) → K.Fault s p r ⊎ Unseen K W s p r → look K W p (K.read s p) ≡ refused r
  view-refuses s p r (inl f) = rw (L.refuses s p r f)
  view-refuses s p r (inr f) = simp (L.complete f.of f.loose f.used f.left s p f.form f.stands, f.sees, f.is)

  view-numbered : (s : List ℕ) (p : ℕ) (r : Refusal) → K.Fault s p r ⊎ Unseen K W s p r → OfReading r
  view-numbered s p r (inl f) = L.numbered s p r f
  view-numbered s p r (inr f) = subst OfReading (sym f.is) tt

  view-alike : (m m' : N) (w w' : List Loose) (e : List ℕ) → Viewed K W m w e → Viewed K W m' w' e → w ≡ w'
  view-alike m m' w w' e f f' =
      let z : f.of ≡ f'.of = same-message K L.complete f.form f'.form in
      let s : means m f.w₂ ≡ means m' f'.w₂ = sym f.sees ∙ ap W.see z ∙ f'.sees in
      let v : f.w₂ ≡ f'.w₂ = cc s in
      f.loose
      ∙ ap₂ (λ x y. x ++ y) (ap here v) (L.alike f.of f'.of f.w₁ f'.w₁ e f.form f'.form)
      ∙ sym f'.loose

  -- appending bytes: what is seen as nothing is no refusal 1, and stays
  view-ended : (s : List ℕ) (p q w : ℕ) → p ≤ length s → K.Fault s p (Ended q w) ⊎ Unseen K W s p (Ended q w) → (p ≤ q) × (q ≤ length s) × (0 < w)
  view-ended s p q w h (inl f) = L.ended s p q w h f
  view-ended s p q w h (inr f) = apart f.is

  view-few : (s t : List ℕ) (p : ℕ) (r : Refusal) → p ≤ length s → K.Fault s p r ⊎ Unseen K W s p r → TooFew (length t) r
      → K.Fault (s ++ t) p (less_by (length t) r) ⊎ Unseen K W (s ++ t) p (less_by (length t) r)
  view-few s t p r h (inl f) g = inl (L.few s t p r h f g)
  view-few s t p r h (inr f) g =
      inr
      (record {
        of = f.of;
        loose = f.loose;
        used = f.used;
        left = f.left ++ t;
        form = f.form;
        stands = stands-grow f.used f.left s t p h f.stands;
        sees = f.sees;
        is = ap (less_by (length t)) f.is;
      })

  reach-meant : (p k n : ℕ) (b : Bool) (y : Seen N) → k ≡ n → Reaches n (meant K W p k b y)
  reach-meant p k n b (means m w) e = e
  reach-meant p k n b undeclared e = λ q w i. apart (sym i)

  reach-look : (p n : ℕ) (x : Answer M) → Reaches n x → Reaches n (look K W p x)
  reach-look p n (took x k b) e = reach-meant p k n b (W.see x) e
  reach-look p n (refused r) e = e

  view-enough : (s t : List ℕ) (p q w : ℕ) → p ≤ length s → Bytes (s ++ t) → K.Fault s p (Ended q w) ⊎ Unseen K W s p (Ended q w) → length t ≡ w
      → Came s t q (look K W p (K.read (s ++ t) p))
  view-enough s t p q w h b (inl f) e =
      came-by (look K W p) s t (reach-look p (length (s ++ t))) (λ r. refl) q (K.read (s ++ t) p) (L.enough s t p q w h b f e)
  view-enough s t p q w h b (inr f) e = apart f.is

  pub view-lawful : Lawful (view_kind K W)
  view-lawful =
      record {
        sound = λ s p h. sound₁ s p (K.read s p) (L.sound s p h);
        complete = view-complete;
        refuses = view-refuses;
        numbered = view-numbered;
        alike = view-alike;
        good = λ m w e f. (view-faithful m w e f).0;
        written = λ m g.
            record {
              of = W.to m;
              w₁ = [];
              w₂ = [];
              form = L.written (W.to m) (W.to_good m g);
              sees = W.see_to m g;
              loose = refl;
            };
        plain = view-plain;
        ended = view-ended;
        few = view-few;
        enough = view-enough;
      }
