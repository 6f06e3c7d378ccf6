-- How many bytes kinds of one size take.
-- Assumes nothing.
use Rattle.std.specs.Prelude.{◌≡◌, ◌⊎◌, List, ℕ, zero, suc, ◌+◌, ◌-◌, ◌*◌, ◌<◌, length}
use Rattle.std.proofs.Common.{ap, subst, ◌∙◌, inl, inr, arith, length-append}
use Rattle.xdr.specs.Meaning.Answer.{Way}
use Rattle.xdr.specs.Meaning.Kind.{Kind, Codec}
use Rattle.xdr.specs.Meaning.Combinators.{block_kind, void_kind, Behind, chain_kind, means, undeclared, View, Unseen, view_kind, Takes}
use Rattle.xdr.specs.Meaning.Codecs.{times}
use Rattle.xdr.specs.Laws.Lists.{room}
use Rattle.xdr.specs.declared.refusal.Refusal.{Refusal}

pub block-takes : (n : ℕ) → Takes n (block_kind n)
block-takes n = record { long = λ l w e f. ap length f.1 ∙ f.2.size; short = λ s p r c. c.short }

void-takes : Takes 0 void_kind
void-takes = record { long = λ u w e f. ap length f.1; short = λ s p r f. absurd f }

-- seen as another, with nothing that is refused
module _ {M N : Type 0} (K : Kind M) (W : View M K.Good N) (all : (x : M) → ¬ (W.see x ≡ undeclared)) where
  view-short : {n : ℕ} → Takes n K → (s : List ℕ) (p : ℕ) (r : Refusal) → K.Fault s p r ⊎ Unseen K W s p r → length s - p < n
  view-short T s p r (inl f) = T.short s p r f
  view-short T s p r (inr f) = absurd (all f.of f.sees)

  pub view-takes : {n : ℕ} → Takes n K → Takes n (view_kind K W)
  view-takes T = record { long = λ m w e f. T.long f.of f.w₁ e f.form; short = view-short T }

  pub view-cut : (s : List ℕ) (p : ℕ) (r : Refusal) → K.Fault s p r ⊎ Unseen K W s p r → K.Fault s p r
  view-cut s p r (inl f) = f
  view-cut s p r (inr f) = absurd (all f.of f.sees)

-- what means something is seen
pub seen : {N : Type 0} {m : N} {w : List Way} → ¬ (means m w ≡ undeclared)
seen e = let z : ◌≡◌ {A = ℕ} 0 1 = cc in absurd (omega arith)

-- one after another
module _ {M N : Type 0} (A : Kind M) (B : Kind N) {a b : ℕ} (TA : Takes a A) (TB : Takes b B) where
  pair-short : (s : List ℕ) (p : ℕ) (r : Refusal) → A.Fault s p r ⊎ Behind A (λ x. B) s p r → length s - p < a + b
  pair-short s p r (inl f) = omega (arith, TA.short s p r f)
  pair-short s p r (inr f) =
      omega (
        arith,
        TB.short s (p + length f.used) r f.fault,
        TA.long f.message f.loose f.used f.form,
        room f.used f.left s p f.stands,
      )

  pub pair-takes : Takes (a + b) (chain_kind A (λ x. B))
  pair-takes =
      record {
        long = λ m w e f.
            ap length f.bytes
            ∙ length-append f.e₁ f.e₂
            ∙ omega (arith, TA.long m.0 f.w₁ f.e₁ f.form₁, TB.long m.1 f.w₂ f.e₂ f.form₂);
        short = pair-short;
      }

pub times-take : {M : Type 0} (C : Codec M) {k : ℕ} → Takes k C.kind → (n : ℕ) → Takes (n * k) (times C n).kind
times-take C {k} T zero = let e : 0 ≡ 0 * k = omega arith in subst (λ (i : ℕ). Takes i void_kind) e void-takes
times-take C {k} T (suc n) =
    let e : k + n * k ≡ suc n * k = omega arith in
    subst (λ (i : ℕ). Takes i (times C (suc n)).kind) e (pair-takes C.kind (times C n).kind T (times-take C T n))
