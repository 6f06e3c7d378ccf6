-- How long forms are, and that a rewriting is no longer than what was read: a step for each combinator, and the items.
-- Assumes nothing.
use Rattle.std.specs.Prelude.{◌≡◌, refl, Bool, true, false, List, [], ◌∷◌, ◌++◌, ℕ, zero, suc, ◌+◌, ◌-◌, ◌*◌, ◌≤◌, max, length, drop}
use Rattle.std.proofs.Common.{sym, ap, subst, ◌∙◌, arith, length-append, length-drop, length-take-le}
use Rattle.xdr.specs.Meaning.Bytes.{digits}
use Rattle.xdr.specs.Meaning.Answer.{Way, Loose}
use Rattle.xdr.specs.Meaning.Kind.{Kind, Lawful, Codec}
use Rattle.xdr.specs.Meaning.Promise.{used, NoLonger}
use Rattle.xdr.specs.Meaning.Combinators.{block_kind, void_kind, chain_kind, means, Faithful, View, view_kind, run_kind, item_kind, among}
use Rattle.xdr.specs.Meaning.Codecs.{chain, mapped, times}
use Rattle.xdr.specs.Meaning.Items.{number, word, hyper, flag, from_flag, int, long, eight, word_takes, counted, opaque, words, closed, if, option}
use Rattle.xdr.specs.Meaning.Pieces.{opaque_size}
use Rattle.xdr.specs.Meaning.Format.{Format}
use Rattle.xdr.specs.Meaning.Public.{Took, rewritten}
use Rattle.xdr.specs.Laws.Digits.{length_digits}
use Rattle.xdr.specs.Laws.Block.{block-lawful}
use Rattle.xdr.specs.Laws.Takes.{times-take}
use Rattle.xdr.specs.Laws.Forms.{opaque-stands}
use Rattle.xdr.specs.Laws.Padding.{word-length, opaque-long}
use Rattle.xdr.specs.Laws.Promise.{keeps}
use Rattle.xdr.specs.Laws.Public.{reading, reading-is}

-- a form has at least `lo` and at most `hi` bytes
pub record Lengths {M : Type 0} (lo hi : ℕ) (K : Kind M) : Type 0 where
  pub of : (m : M) (w : List Loose) (e : List ℕ) → K.Form m w e → (lo ≤ length e) × (length e ≤ hi)

-- what is written is no longer than the larger of k bytes and any form of it
pub record Within {M : Type 0} (k : ℕ) (K : Kind M) : Type 0 where
  pub of : (m : M) (w : List Loose) (e : List ℕ) → K.Form m w e → length (K.write m) ≤ max k (length e)

pub weaken : {M : Type 0} {j k : ℕ} {K : Kind M} → j ≤ k → Within j K → Within k K
weaken h f = record { of = λ m w e g. omega (arith, f.of m w e g) }

-- of a reading, and of what a public reader took
pub no_longer : {M : Type 0} (C : Codec M) {k : ℕ} → Within k C.kind → NoLonger C.kind k
no_longer C h r =
    let f = (keeps C).formed r in
    let i = (keeps C).within r in
    let l : length (used C.kind r) ≡ r.next - r.place =
    length-take-le (r.next - r.place) (drop r.place r.input) (omega (arith, length-drop r.place r.input)) in
    omega (arith, h.of r.message f.0 (used C.kind r) f.1)

pub answer-no-longer : {M S : Type 0} (F : Format M S) {k : ℕ} → Within k F.codec.kind → (t : Took F)
    → length (rewritten F t) ≤ max k (t.next - t.place)
answer-no-longer F {k} h t =
    let i = reading-is F t in
    let l : length (rewritten F t) ≤ max k ((reading F t).next - (reading F t).place) =
    subst (λ x. length (F.codec.kind.write x) ≤ max k ((reading F t).next - (reading F t).place)) i.0 (no_longer F.codec h (reading F t)) in
    omega arith

-- bytes as they stand, and nothing
pub block-lengths : {n : ℕ} → Lengths n n (block_kind n)
block-lengths {n} = record { of = λ l w e f. let z : length e ≡ n = ap length f.1 ∙ f.2.size in omega arith }

pub block_within : {n : ℕ} → Within 0 (block_kind n)
block_within = record { of = λ l w e f. let z : length e ≡ length l = ap length f.1 in omega arith }

pub void-lengths : Lengths 0 0 void_kind
void-lengths = record { of = λ u w e f. let z : length e ≡ 0 = ap length f.1 in omega arith }

pub void-within : Within 0 void_kind
void-within = record { of = λ u w e f. omega arith }

-- one after another
module _ {M : Type 0} {N : M → Type 0} {A : Kind M} {B : (a : M) → Kind (N a)} where
  pub chain-lengths : {a b c d : ℕ} → Lengths a b A → ((x : M) → Lengths c d (B x)) → Lengths (a + c) (b + d) (chain_kind A B)
  chain-lengths h i =
      record {
        of = λ m w e f.
            omega (
              arith,
              h.of m.0 f.w₁ f.e₁ f.form₁,
              (i m.0).of m.1 f.w₂ f.e₂ f.form₂,
              ap length f.bytes ∙ length-append f.e₁ f.e₂,
            );
      }

  pub chain-within : Within 0 A → ((x : M) → Within 0 (B x)) → Within 0 (chain_kind A B)
  chain-within h i =
      record {
        of = λ m w e f.
            omega (
              arith,
              length-append (A.write m.0) ((B m.0).write m.1),
              h.of m.0 f.w₁ f.e₁ f.form₁,
              (i m.0).of m.1 f.w₂ f.e₂ f.form₂,
              ap length f.bytes ∙ length-append f.e₁ f.e₂,
            );
      }

  -- where the second may grow, the first has at most so many bytes
  pub chain-grows : {a b k : ℕ} → Lengths a b A → Within 0 A → ((x : M) → Within k (B x)) → Within (b + k) (chain_kind A B)
  chain-grows l h i =
      record {
        of = λ m w e f.
            omega (
              arith,
              length-append (A.write m.0) ((B m.0).write m.1),
              l.of m.0 f.w₁ f.e₁ f.form₁,
              h.of m.0 f.w₁ f.e₁ f.form₁,
              (i m.0).of m.1 f.w₂ f.e₂ f.form₂,
              ap length f.bytes ∙ length-append f.e₁ f.e₂,
            );
      }

module _ {M N : Type 0} {A : Kind M} {B : Kind N} where
  pub pair-lengths : {a b c d : ℕ} → Lengths a b A → Lengths c d B → Lengths (a + c) (b + d) (chain_kind A (λ x. B))
  pair-lengths h i = chain-lengths h (λ x. i)

  pub pair-within : Within 0 A → Within 0 B → Within 0 (chain_kind A (λ x. B))
  pair-within h i = chain-within h (λ x. i)

-- seen as another
pub view-lengths : {M N : Type 0} {K : Kind M} {W : View M K.Good N} {lo hi : ℕ} → Lengths lo hi K → Lengths lo hi (view_kind K W)
view-lengths h = record { of = λ m w e f. h.of f.of f.w₁ e f.form }

-- what is seen with nothing loose is written as what was seen, so only the defaults matter
module _ {M N : Type 0} (K : Kind M) (W : View M K.Good N) where
  -- each is no longer than the larger of k bytes and the form that it stands for
  abbrev pub Defaults : ℕ → Type 0
  Defaults k =
      (x : M) (m : N) (l : Way) (u : List Way) (w : List Loose) (e : List ℕ) → W.see x ≡ means m (l ∷ u) → K.Form x w e
      → length (K.write (W.to m)) ≤ max k (length e)

  module _ (L : Lawful K) {k : ℕ} (h : Within k K) (d : Defaults k) where
    by-loose : (x : M) (m : N) (v : List Way) (w : List Loose) (e : List ℕ) → W.see x ≡ means m v → K.Form x w e
        → length (K.write (W.to m)) ≤ max k (length e)
    by-loose x m [] w e s f =
        let q = subst (Faithful W.Good W.to x) s (W.faithful x (L.good x w e f)) in
        subst (λ z. length (K.write z) ≤ max k (length e)) (sym (q.1 refl)) (h.of x w e f)
    by-loose x m (l ∷ u) w e s f = d x m l u w e s f

    pub view-within : Within k (view_kind K W)
    view-within = record { of = λ m w e f. by-loose f.of m f.w₂ f.w₁ e f.sees f.form }

-- what is seen with nothing loose has no default
pub no_default : {N P : Type 0} {a b : N} {l : Way} {u : List Way} → means a [] ≡ means b (l ∷ u) → P
no_default e = let z : ◌≡◌ {A = ℕ} 0 1 = cc in absurd (omega arith)

pub run-within : {M : Type 0} {K : Kind M} {n k : ℕ} → Within k K → Within k (run_kind n K)
run-within h = record { of = h.of }

pub item-within : {M : Type 0} {K : Kind M} {k : ℕ} → Within k K → Within k (item_kind K)
item-within h = record { of = h.of }

-- the items
pub number-lengths : (k : ℕ) → Lengths k k (number k).kind
unfolding number
number-lengths k = view-lengths block-lengths

pub number-within : (k : ℕ) → Within 0 (number k).kind
unfolding number
number-within k = view-within _ _ (block-lawful k) block_within (λ x m l u w e s f. no_default s)

pub word-lengths : Lengths 4 4 word.kind
unfolding word
word-lengths = number-lengths 4

pub word-within : Within 0 word.kind
unfolding word
word-within = number-within 4

pub hyper-lengths : Lengths 8 8 hyper.kind
unfolding hyper
hyper-lengths = number-lengths 8

pub hyper-within : Within 0 hyper.kind
unfolding hyper
hyper-within = number-within 8

pub flag-lengths : Lengths 4 4 flag.kind
unfolding flag
flag-lengths = view-lengths word-lengths

pub flag-within : Within 0 flag.kind
unfolding flag
flag-within =
    view-within _ _ word.laws word-within
    (λ x m l u w e s f. omega (arith, word-length (from_flag m), word-lengths.of x w e f))

pub int-lengths : Lengths 4 4 int.kind
unfolding int number
int-lengths = view-lengths (number-lengths 4)

pub int-within : Within 0 int.kind
unfolding int number
int-within = view-within _ _ (number 4).laws (number-within 4) (λ x m l u w e s f. no_default s)

pub long-lengths : Lengths 8 8 long.kind
unfolding long number
long-lengths = view-lengths (number-lengths 8)

pub long-within : Within 0 long.kind
unfolding long number
long-within = view-within _ _ (number 8).laws (number-within 8) (λ x m l u w e s f. no_default s)

pub eight-lengths : Lengths 8 8 eight.kind
unfolding eight
eight-lengths = view-lengths hyper-lengths

pub eight-within : Within 0 eight.kind
unfolding eight
eight-within = view-within _ _ hyper.laws hyper-within (λ x m l u w e s f. no_default s)

-- a closed enumeration: what is among the numbers is not loose
module _ {A : Type 0} (number : A → ℕ) (l : List A) (each : (a : A) → among number l (number a) ≡ means a []) where
  pub closed-lengths : Lengths 4 4 (closed number l each).kind
  closed-lengths = view-lengths word-lengths

  pub closed-within : Within 0 (closed number l each).kind
  closed-within = record { of = λ a w e f. omega (arith, word-length (number a), word-lengths.of f.of f.w₁ e f.form) }

-- an opaque has the length of its length word, its bytes and their padding
pub opaque-form-long : (m : List ℕ) (w : List Loose) (e : List ℕ) → opaque.kind.Form m w e → length e ≡ opaque_size (length m)
opaque-form-long m w e f =
    let o = opaque-stands m w e f in
    ap length o.bytes
    ∙ length-append (digits 4 (length m)) (m ++ o.pad)
    ∙ omega (arith, length_digits 4 (length m), length-append m o.pad, o.pad_size)

pub opaque-within : Within 0 opaque.kind
opaque-within = record { of = λ m w e f. omega (arith, opaque-long m, opaque-form-long m w e f) }

-- n values of a kind
pub times-within : {M : Type 0} (C : Codec M) → Within 0 C.kind → (n : ℕ) → Within 0 (times C n).kind
times-within C h zero = void-within
times-within C h (suc n) = chain-within h (λ a. times-within C h n)

pub words-within : Within 0 words.kind
unfolding words
words-within =
    view-within _ _ (counted (λ n. n * 4) (times word) (times-take word word_takes)).laws
    (item-within (chain-within word-within (λ n. run-within (times-within word word-within n)))) (λ x m l u w e s f. no_default s)

-- the same bytes under other names, and a value that a flag says is there
pub mapped-within : {M N : Type 0} (C : Codec M) (f : M → N) (g : N → M) (gf : (x : M) → g (f x) ≡ x) (fg : (y : N) → f (g y) ≡ y) {k : ℕ}
    → Within k C.kind → Within k (mapped C f g gf fg).kind
mapped-within C f g gf fg h = view-within _ _ C.laws h (λ x m l u w e s t. no_default s)

module _ {M : Type 0} (C : Codec M) where
  pub if-lengths : {lo hi : ℕ} → Lengths lo hi C.kind → (b : Bool) → Lengths 0 hi (if C b).kind
  if-lengths h true = record { of = λ m w e f. omega (arith, h.of m w e f) }
  if-lengths h false = record { of = λ m w e f. omega (arith, void-lengths.of m w e f) }

  pub if-within : Within 0 C.kind → (b : Bool) → Within 0 (if C b).kind
  if-within h true = h
  if-within h false = void-within

  pub option-lengths : {lo hi : ℕ} → Lengths lo hi C.kind → Lengths 4 (4 + hi) (option C).kind
  option-lengths h = view-lengths (chain-lengths flag-lengths (if-lengths h))

  pub option-within : Within 0 C.kind → Within 0 (option C).kind
  option-within h =
      view-within _ _ (chain flag (if C)).laws (chain-within flag-within (if-within h)) (λ x m l u w e s t. no_default s)
