-- The combinators keep the link between what is held and what is meant.
-- Assumes nothing.
use Rattle.std.specs.Prelude.{◌≡◌, refl, Bool, true, ◌&&◌, List, ℕ}
use Rattle.std.proofs.Common.{sym, ap, ap₂, ◌∙◌, subst, arith}
use Rattle.xdr.specs.Meaning.Answer.{Answer, took, refused, map_answer, Taken}
use Rattle.xdr.specs.Meaning.Kind.{Codec}
use Rattle.xdr.specs.Meaning.Combinators.{first, second, Seen, means, undeclared, View, meant, look}
use Rattle.xdr.specs.Meaning.Codecs.{chain, view}
use Rattle.xdr.specs.Meaning.Held.{Held, then_first, then_second, then_mean, then_inside, map_seen, Meant, seen_as, look_at, Holds}
use Rattle.xdr.specs.declared.refusal.Refusal.{Refusal}

-- no pieces: the message itself
map_same : {M : Type 0} (x : Answer M) → x ≡ map_answer (λ m. m) x
map_same (took m n b) = refl
map_same (refused r) = refl

kept_same : {M : Type 0} (x : Answer M) → Taken (λ m. true ≡ true) x
kept_same (took m n b) = refl
kept_same (refused r) = tt

pub plain-agrees : {M : Type 0} (C : Codec M) (s : List ℕ) (p : ℕ) → C.kind.read s p ≡ map_answer (λ m. m) (C.kind.read s p)
plain-agrees C s p = map_same (C.kind.read s p)

pub plain-kept : {M : Type 0} (C : Codec M) (s : List ℕ) (p : ℕ) → Taken (λ m. true ≡ true) (C.kind.read s p)
plain-kept C s p = kept_same (C.kind.read s p)

-- one after another
module _ {M S : Type 0} {N : M → Type 0} {T : S → Type 0} {A : Codec M} (B : (a : M) → Codec (N a)) (H : Held A S)
    (G : (s : List ℕ) (x : S) → Held (B (H.mean s x)) (T x)) where
  agree₂ : (s : List ℕ) (x : S) (b : Bool) (y : Answer (T x))
      → second A.kind (λ a. (B a).kind) (H.mean s x) b (map_answer ((G s x).mean s) y) ≡ map_answer (then_mean B H G s) (then_second B H G x b y)
  agree₂ s x b (took y n b') = refl
  agree₂ s x b (refused r) = refl

  agree₁ : (s : List ℕ) (z : Answer S)
      → first A.kind (λ a. (B a).kind) s (map_answer (H.mean s) z) ≡ map_answer (then_mean B H G s) (then_first B H G s z)
  agree₁ s (took x n b) =
      ap (second A.kind (λ a. (B a).kind) (H.mean s x) b) ((G s x).agrees s n) ∙ agree₂ s x b ((G s x).read s n)
  agree₁ s (refused r) = refl

  kept₂ : (s : List ℕ) (x : S) (b : Bool) → H.inside s x ≡ true → (y : Answer (T x)) → Taken (λ v. (G s x).inside s v ≡ true) y
      → Taken (λ v. then_inside B H G s v ≡ true) (then_second B H G x b y)
  kept₂ s x b h (took y n b') k = ap₂ (λ u v. u && v) h k
  kept₂ s x b h (refused r) k = tt

  kept₁ : (s : List ℕ) (z : Answer S) → Taken (λ v. H.inside s v ≡ true) z → Taken (λ v. then_inside B H G s v ≡ true) (then_first B H G s z)
  kept₁ s (took x n b) h = kept₂ s x b h ((G s x).read s n) ((G s x).kept s n)
  kept₁ s (refused r) h = tt

  pub then_agrees : (s : List ℕ) (p : ℕ) → (chain A B).kind.read s p ≡ map_answer (then_mean B H G s) (then_first B H G s (H.read s p))
  then_agrees s p = ap (first A.kind (λ a. (B a).kind) s) (H.agrees s p) ∙ agree₁ s (H.read s p)

  pub then-kept : (s : List ℕ) (p : ℕ) → Taken (λ v. then_inside B H G s v ≡ true) (then_first B H G s (H.read s p))
  then-kept s p = kept₁ s (H.read s p) (H.kept s p)

-- seen as another
module _ {M S N T : Type 0} {C : Codec M} (W : View M C.kind.Good N) (H : Held C S) (U : Holds H W.see T) where
  see₂ : (s : List ℕ) (p n : ℕ) (b : Bool) (y : Seen T) → meant C.kind W p n b (map_seen (U.mean s) y) ≡ map_answer (U.mean s) (seen_as p n b y)
  see₂ s p n b (means m w) = refl
  see₂ s p n b undeclared = refl

  see₁ : (s : List ℕ) (p : ℕ) (z : Answer S) → look C.kind W p (map_answer (H.mean s) z) ≡ map_answer (U.mean s) (look_at U.holds p z)
  see₁ s p (took x n b) = ap (meant C.kind W p n b) (U.square s x) ∙ see₂ s p n b (U.holds x)
  see₁ s p (refused r) = refl

  in₂ : (s : List ℕ) (p n : ℕ) (b : Bool) (y : Seen T) → Meant (λ v. U.inside s v ≡ true) y → Taken (λ v. U.inside s v ≡ true) (seen_as p n b y)
  in₂ s p n b (means m w) h = h
  in₂ s p n b undeclared h = tt

  in₁ : (s : List ℕ) (p : ℕ) (z : Answer S) → Taken (λ v. H.inside s v ≡ true) z → Taken (λ v. U.inside s v ≡ true) (look_at U.holds p z)
  in₁ s p (took x n b) h = in₂ s p n b (U.holds x) (U.within s x h)
  in₁ s p (refused r) h = tt

  pub view-agrees : (s : List ℕ) (p : ℕ) → (view C W).kind.read s p ≡ map_answer (U.mean s) (look_at U.holds p (H.read s p))
  view-agrees s p = ap (look C.kind W p) (H.agrees s p) ∙ see₁ s p (H.read s p)

  pub view-kept : (s : List ℕ) (p : ℕ) → Taken (λ v. U.inside s v ≡ true) (look_at U.holds p (H.read s p))
  view-kept s p = in₁ s p (H.read s p) (H.kept s p)

-- a held reading that was taken is a reading of what is meant; one that was refused is refused alike
module _ {M S : Type 0} {C : Codec M} (H : Held C S) (s : List ℕ) (p : ℕ) where
  pub taken-means : {x : S} {n : ℕ} {b : Bool} → H.read s p ≡ took x n b → C.kind.read s p ≡ took (H.mean s x) n b
  taken-means e = H.agrees s p ∙ ap (map_answer (H.mean s)) e

  pub refused-means : {r : Refusal} → H.read s p ≡ refused r → C.kind.read s p ≡ refused r
  refused-means e = H.agrees s p ∙ ap (map_answer (H.mean s)) e

  -- and the other way: a message that is read is what the held reading means
  pub means-taken : {m : M} {n : ℕ} {b : Bool} → C.kind.read s p ≡ took m n b → (x : S) × (H.read s p ≡ took x n b) × (H.mean s x ≡ m)
  means-taken {m} {n} {b} e = go (H.read s p) refl
    where
      go : (z : Answer S) → H.read s p ≡ z → (x : S) × (H.read s p ≡ took x n b) × (H.mean s x ≡ m)
      go (took x n' b') f =
          let g : ◌≡◌ {A = Answer M} (took (H.mean s x) n' b') (took m n b) = sym (taken-means f) ∙ e in
          (x, cc (f, g), cc g)
      go (refused r) f =
          let g : ◌≡◌ {A = Answer M} (refused r) (took m n b) = sym (refused-means f) ∙ e in
          let z : ◌≡◌ {A = ℕ} 0 1 = cc in absurd (omega arith)

  pub taken-inside : {x : S} {n : ℕ} {b : Bool} → H.read s p ≡ took x n b → H.inside s x ≡ true
  taken-inside e = subst (Taken (λ x. H.inside s x ≡ true)) e (H.kept s p)
