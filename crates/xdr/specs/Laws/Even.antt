-- Kinds whose messages have one length each: every form of a message is as long as what it is written as.
-- Assumes nothing.
use Rattle.std.specs.Prelude.{◌≡◌, refl, Bool, true, false, List, [], ◌∷◌, ℕ, zero, suc, ◌+◌, length}
use Rattle.std.proofs.Common.{sym, ap, ap₂, subst, ◌∙◌, arith, length-append}
use Rattle.std.proofs.Math.Option.{Option, none, some}
use Rattle.xdr.specs.Meaning.Answer.{Way, Loose}
use Rattle.xdr.specs.Meaning.Kind.{Kind, Lawful, Codec}
use Rattle.xdr.specs.Meaning.Combinators.{void_kind, chain_kind, means, Faithful, View, view_kind}
use Rattle.xdr.specs.Meaning.Codecs.{chain}
use Rattle.xdr.specs.Meaning.Items.{flag, opaque}
use Rattle.xdr.specs.Meaning.Format.{Format, Renaming, named, if_format, flagged, optional}
use Rattle.xdr.specs.Meaning.Linked.{rest, fewer, linked_kind}
use Rattle.xdr.specs.Meaning.Lists.{linked}
use Rattle.xdr.specs.Laws.Padding.{flag-length, opaque-long}
use Rattle.xdr.specs.Laws.Lengths.{flag-lengths, opaque-form-long, no_default, Within}

pub record Even {M : Type 0} (K : Kind M) : Type 0 where
  pub of : (m : M) (w : List Loose) (e : List ℕ) → K.Form m w e → length e ≡ length (K.write m)

-- so a rewriting is no longer than what was read
pub even-within : {M : Type 0} {K : Kind M} → Even K → Within 0 K
even-within h = record { of = λ m w e f. omega (arith, h.of m w e f) }

pub void-even : Even void_kind
void-even = record { of = λ u w e f. ap length f.1 }

pub chain-even : {M : Type 0} {N : M → Type 0} {A : Kind M} {B : (a : M) → Kind (N a)} → Even A → ((x : M) → Even (B x)) → Even (chain_kind A B)
chain-even {A = A} {B = B} h i =
    record {
      of = λ m w e f.
          ap length f.bytes
          ∙ length-append f.e₁ f.e₂
          ∙ ap₂ (λ a b. a + b) (h.of m.0 f.w₁ f.e₁ f.form₁) ((i m.0).of m.1 f.w₂ f.e₂ f.form₂)
          ∙ sym (length-append (A.write m.0) ((B m.0).write m.1));
    }

-- seen as another, with no default
module _ {M N : Type 0} (K : Kind M) (W : View M K.Good N) (L : Lawful K) (h : Even K)
    (none-loose : (x : M) (m : N) (l : Way) (u : List Way) → ¬ (W.see x ≡ means m (l ∷ u))) where
  by-loose : (x : M) (m : N) (v : List Way) (w : List Loose) (e : List ℕ) → W.see x ≡ means m v → K.Form x w e → length e ≡ length (K.write (W.to m))
  by-loose x m [] w e s f =
      let q = subst (Faithful W.Good W.to x) s (W.faithful x (L.good x w e f)) in
      h.of x w e f ∙ ap (λ z. length (K.write z)) (sym (q.1 refl))
  by-loose x m (l ∷ u) w e s f = absurd (none-loose x m l u s)

  pub view-even : Even (view_kind K W)
  view-even = record { of = λ m w e f. by-loose f.of m f.w₂ f.w₁ e f.sees f.form }

pub flag-even : Even flag.kind
flag-even = record { of = λ b w e f. omega (arith, flag-lengths.of b w e f, flag-length b) }

pub opaque-even : Even opaque.kind
opaque-even = record { of = λ m w e f. omega (arith, opaque-long m, opaque-form-long m w e f) }

pub named-even : {M N S T : Type 0} (F : Format M S) (R : Renaming M N S T) → Even F.codec.kind → Even (named F R).codec.kind
named-even F R h = view-even _ _ F.codec.laws h (λ x m l u s. no_default s)

if-even : {M S : Type 0} (F : Format M S) → Even F.codec.kind → (b : Bool) → Even (if_format F b).codec.kind
if-even F h true = h
if-even F h false = void-even

pub optional-even : {M S : Type 0} (F : Format M S) → Even F.codec.kind → Even (optional F).codec.kind
optional-even F h = named-even (flagged F) _ (chain-even flag-even (if-even F h))

-- linked lists
module _ {M : Type 0} (O : Codec (Option M)) (h : Even O.kind) where
  rest-even : (D : Codec (List M)) → Even D.kind → (o : Option M) → Even (rest O D o).kind
  rest-even D i none = void-even
  rest-even D i (some m) = i

  fewer-even : (k : ℕ) → Even (fewer O k).kind
  fewer-even zero = record { of = λ m w e f. absurd f }
  fewer-even (suc k) = view-even _ _ (chain O (rest O (fewer O k))).laws (chain-even h (rest-even (fewer O k) (fewer-even k))) (λ x m l u s. no_default s)

  pub linked-even : Even (linked_kind O)
  linked-even = record { of = λ l w e f. (fewer-even (suc (length l))).of l w e f }

pub list-even : {M S : Type 0} (F : Format M S) → Even F.codec.kind → Even (linked F).kind
list-even F h = linked-even (optional F).codec (optional-even F h)
