-- Kinds without padding: a step for each combinator, and the items.
-- Assumes nothing.
use Rattle.std.specs.Prelude.{◌≡◌, refl, Bool, true, false, cond, ◌&&◌, List, [], ◌∷◌, ◌++◌, ℕ, zero, suc, eqb, length}
use Rattle.std.proofs.Common.{ap, ap₂, subst, ◌∙◌}
use Rattle.xdr.specs.Meaning.Answer.{Loose, here, shifted}
use Rattle.xdr.specs.Meaning.Kind.{Kind, Codec}
use Rattle.xdr.specs.Meaning.Combinators.{block_kind, void_kind, chain_kind, Seen, means, undeclared, View, view_kind, among}
use Rattle.xdr.specs.Meaning.Items.{number, word, hyper, word_pair, hyper_pair, flag, see_flag, int, long, eight, closed}
use Rattle.xdr.specs.Meaning.Format.{exactly}
use Rattle.xdr.specs.Meaning.Marks.{no_pad, pads_clean, MarksAre}

-- clean padding in two parts is clean padding in the whole, wherever it stands
pub pads-append : (v w : List Loose) → pads_clean (v ++ w) ≡ (pads_clean v && pads_clean w)
pads-append [] w = refl
pads-append (x ∷ v) w = by (no_pad x.way) (pads-append v w)
  where
    by : (b : Bool) → pads_clean (v ++ w) ≡ (pads_clean v && pads_clean w) → (b && pads_clean (v ++ w)) ≡ ((b && pads_clean v) && pads_clean w)
    by true e = e
    by false e = refl

pub pads-shifted : (k : ℕ) (w : List Loose) → pads_clean (shifted k w) ≡ pads_clean w
pads-shifted k [] = refl
pads-shifted k (x ∷ w) = ap (λ b. no_pad x.way && b) (pads-shifted k w)

-- no form has dirty padding
pub record Unpadded {M : Type 0} (K : Kind M) : Type 0 where
  pub none : (m : M) (w : List Loose) (e : List ℕ) → K.Form m w e → pads_clean w ≡ true

pub block-unpadded : {n : ℕ} → Unpadded (block_kind n)
block-unpadded = record { none = λ l w e f. ap pads_clean f.0 }

pub void-unpadded : Unpadded void_kind
void-unpadded = record { none = λ u w e f. ap pads_clean f.0 }

-- one after another
module _ {M : Type 0} {N : M → Type 0} {A : Kind M} {B : (a : M) → Kind (N a)} where
  pub chain-unpadded : Unpadded A → ((x : M) → Unpadded (B x)) → Unpadded (chain_kind A B)
  chain-unpadded h i =
      record {
        none = λ m w e f.
            ap pads_clean f.loose
            ∙ pads-append f.w₁ (shifted (length f.e₁) f.w₂)
            ∙ ap₂ (λ a b. a && b) (h.none m.0 f.w₁ f.e₁ f.form₁)
            (pads-shifted (length f.e₁) f.w₂ ∙ (i m.0).none m.1 f.w₂ f.e₂ f.form₂);
      }

pub pair-unpadded : {M N : Type 0} {A : Kind M} {B : Kind N} → Unpadded A → Unpadded B → Unpadded (chain_kind A (λ x. B))
pair-unpadded h i = chain-unpadded h (λ x. i)

-- seen as another: the view sees no padding
abbrev pub SeesNone : {N : Type 0} → Seen N → Type 0
SeesNone (means m w) = pads_clean (here w) ≡ true
SeesNone undeclared = Unit {0}

module _ {M N : Type 0} {K : Kind M} {W : View M K.Good N} where
  pub view-unpadded : ((x : M) → SeesNone (W.see x)) → Unpadded K → Unpadded (view_kind K W)
  view-unpadded g h =
      record {
        none = λ m w e f.
            ap pads_clean f.loose
            ∙ pads-append (here f.w₂) f.w₁
            ∙ ap₂ (λ a b. a && b) (subst SeesNone f.sees (g f.of)) (h.none f.of f.w₁ e f.form);
      }

-- the items
pub number-unpadded : (k : ℕ) → Unpadded (number k).kind
unfolding number
number-unpadded k = view-unpadded (λ x. refl) block-unpadded

pub word-unpadded : Unpadded word.kind
unfolding word
word-unpadded = number-unpadded 4

pub hyper-unpadded : Unpadded hyper.kind
unfolding hyper
hyper-unpadded = number-unpadded 8

pub word-pair-unpadded : Unpadded word_pair.kind
unfolding word_pair
word-pair-unpadded = pair-unpadded word-unpadded word-unpadded

pub hyper-pair-unpadded : Unpadded hyper_pair.kind
unfolding hyper_pair
hyper-pair-unpadded = pair-unpadded hyper-unpadded hyper-unpadded

pub flag-unpadded : Unpadded flag.kind
unfolding flag
flag-unpadded = view-unpadded sees word-unpadded
  where
    sees : (n : ℕ) → SeesNone (see_flag n)
    sees zero = refl
    sees (suc zero) = refl
    sees (suc (suc n)) = refl

pub int-unpadded : Unpadded int.kind
unfolding int number
int-unpadded = view-unpadded (λ x. refl) (number-unpadded 4)

pub long-unpadded : Unpadded long.kind
unfolding long number
long-unpadded = view-unpadded (λ x. refl) (number-unpadded 8)

pub eight-unpadded : Unpadded eight.kind
unfolding eight
eight-unpadded = view-unpadded (λ x. refl) hyper-unpadded

-- a closed enumeration
pub among-sees : {A : Type 0} (number : A → ℕ) (l : List A) (v : ℕ) → SeesNone (among number l v)
among-sees number [] v = tt
among-sees number (a ∷ l) v = by (eqb v (number a)) (among-sees number l v)
  where
    by : (b : Bool) → SeesNone (among number l v) → SeesNone (cond b (means a []) (among number l v))
    by true h = refl
    by false h = h

pub closed-unpadded : {A : Type 0} (number : A → ℕ) (l : List A) (each : (a : A) → among number l (number a) ≡ means a []) → Unpadded (closed number l each).kind
closed-unpadded number l each = view-unpadded (among-sees number l) word-unpadded

-- what has no pieces has no marks
pub no-marks : {M : Type 0} (C : Codec M) (x : M) → MarksAre (exactly C) x []
no-marks C x = record { are = λ s. refl }
