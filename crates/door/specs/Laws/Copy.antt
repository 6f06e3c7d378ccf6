-- What a copier's proof cites: the reader's answer and the writer's make the copy's.
-- Assumes nothing.
use Rattle.std.specs.Prelude.{◌≡◌, refl, Bool, List, [], ◌∷◌, ◌++◌, ℕ, zero, suc, ◌+◌, ◌-◌, ◌≤◌, ◌<◌, length, take, drop, Result, Ok, Err}
use Rattle.xdr.specs.declared.answer.Took.{Took}
use Rattle.std.proofs.Common.{sym, ap, subst, ◌∙◌, arith}
use Rattle.std.proofs.Math.Option.{Option}
use borrow.Author.Tests.{le-leb}
use Rattle.xdr.specs.Meaning.Answer.{Answer, took, refused, opened, most, Written, done, unwritten}
use Rattle.xdr.specs.Meaning.Kind.{Codec}
use Rattle.xdr.specs.Meaning.Format.{Format, Branch, exactly}
use Rattle.xdr.specs.Meaning.Order.{placing}
use Rattle.xdr.specs.Meaning.Views.{view, view_wrote}
use Rattle.xdr.specs.Meaning.Public.{Answers, output, writing, Writes}
use Rattle.xdr.specs.Meaning.Within.{WritesWithin}
use Rattle.xdr.specs.Meaning.Marks.{MarksAre}
use Rattle.xdr.specs.Laws.Public.{kept}
use Rattle.xdr.specs.Laws.Within.{Bounded}
use Rattle.xdr.proofs.Within.{read-writes}
use Rattle.door.specs.Meaning.Kinds.{CopiesOf, CopiesIn}
use Rattle.door.specs.Meaning.Copy.{Is, Copy, unknown, unread, said_of, Copies}
use Rattle.xdr.specs.declared.refusal.Refusal.{Refusal}

-- by the case t that a writer's answer is
pub said_at : {f : Written → Copy} {w t : Result ℕ Refusal} {y : Copy} → w ≡ t → y ≡ f (view_wrote t) → Is f (view_wrote w) y
said_at {f} e h = record { is = h ∙ ap (λ z. f (view_wrote z)) (sym e) }

module _ {M S : Type 0} (F : Format M S) (s : List ℕ) (at start : ℕ) (o : List ℕ) {r : Result (Took S) Refusal} (c : Answers F s at (view r)) where
  -- the reading was refused
  pub not-read : {q : Refusal} → r ≡ Err q → Copies F s at start o (unread q) o
  not-read {q} e =
      let k : opened s at (F.held.read s at) ≡ refused q = sym c.is ∙ ap view e in
      record { says = rw k; leaves = rw k }

  -- it was taken: the writer's answer is the copy's
  pub was_read : {x : Took S} → r ≡ Ok x → {o' : List ℕ} {w : Written} → Writes F s x.value start o w o'
      → {l : List Bool} → MarksAre F x.value l → {a : Copy} → a ≡ said_of x.next x.plain l w → Copies F s at start o a o'
  was_read {x} e {w = w} d {l} m f =
      let k : opened s at (F.held.read s at) ≡ took x.value x.next x.plain = sym c.is ∙ ap view e in
      record {
        says = rw k (f ∙ ap (λ z. said_of x.next x.plain z w) (m.are s) ∙ ap (said_of x.next x.plain (F.held.marks s x.value)) d.says);
        leaves = d.leaves ∙ sym (rw (k, d.says));
      }

-- x was read of s
pub record Was {M S : Type 0} (F : Format M S) (s : List ℕ) (x : S) : Type 0 where
  pub place : ℕ
  pub next : ℕ
  pub plain : Bool
  pub answers : Answers F s place (took x next plain)

-- a message under a bound: what was read keeps to it
pub bounded : {M S : Type 0} {F : Format M S} {over : M → Option ℕ} {G : Format M S} (B : Bounded F over G) (s : List ℕ) (start : ℕ) (o : List ℕ) {x : S}
    → Was G s x → {o' : List ℕ} {w : Written} → WritesWithin F over s x start o w o' → Writes G s x start o w o'
bounded B s start o h d = read-writes B s h.place h.answers d

-- a message without pieces is written with no source; with any source that is not too long it is written alike
abbrev pub Free : {M S : Type 0} → Format M S → S → Type 0
Free F x = (t : List ℕ) → (F.held.mean [] x ≡ F.held.mean t x) × (F.held.inside [] x ≡ F.held.inside t x)

module _ {M S : Type 0} (F : Format M S) (s : List ℕ) (h : length s ≤ most) {x x' : S} (free : Free F x) (same : x' ≡ x) (at : ℕ) (o : List ℕ) where
  out-same : output F [] x ≡ output F s x
  out-same = ap F.codec.kind.write (free s).0

  said : writing F [] x at (length o) ≡ writing F s x at (length o)
  unfolding writing placing
  said = rw (out-same, (free s).1, le-leb (length s) most h)

  by_answer : (w : Written) {o' : List ℕ} → Writes F [] x at o w o' → Writes F s x at o w o'
  by_answer (done n) d =
      record {
        says = d.says ∙ said;
        leaves = d.leaves ∙ ap (λ l. take at o ++ (l ++ drop n o)) out-same;
        good = subst F.codec.kind.Good (free s).0 d.good;
      }
  by_answer (unwritten r) d = record { says = d.says ∙ said; leaves = d.leaves; good = tt }

  pub freed : (w : Written) {o' : List ℕ} → Writes F [] x' at o w o' → Writes F s x at o w o'
  freed w {o'} d = by_answer w (subst (λ y. Writes F [] y at o w o') same d)

-- what was taken is of a source that is not too long
pub short : {M S : Type 0} (F : Format M S) (s : List ℕ) (at : ℕ) {a : Answer S} {x : S} {n : ℕ} {b : Bool} → Answers F s at a → a ≡ took x n b → length s ≤ most
short F s at {x = x} {n = n} {b = b} c e = (((kept F).accepted_iff s at c).0 (x, n, b, e)).0

-- what was read and is written with no source
pub unsourced-free : {M S : Type 0} (F : Format M S) (s : List ℕ) (start : ℕ) (o : List ℕ) {x x' : S} → Free F x → Was F s x → {o' : List ℕ} {w : Written}
    → Writes F [] x' start o w o' → x' ≡ x → Writes F s x start o w o'
unsourced-free F s start o free h {o'} {w} d e = freed F s (short F s h.place h.answers refl) free e start o w d

-- of a codec, whose messages have no pieces
pub unsourced : {M : Type 0} (C : Codec M) (s : List ℕ) (start : ℕ) (o : List ℕ) {x x' : M} → Was (exactly C) s x → {o' : List ℕ} {w : Written}
    → Writes (exactly C) [] x' start o w o' → x' ≡ x → Writes (exactly C) s x start o w o'
unsourced C s start o h d e = unsourced-free (exactly C) s start o (λ t. (refl, refl)) h d e

-- a number that is none of the first is above them
abbrev NoneOf : ℕ → ℕ → Type 0
NoneOf zero k = Unit {0}
NoneOf (suc n) k = NoneOf n k × (k ≡ n → ⊥)

none_of : (n k : ℕ) → NoneOf n k → n ≤ k
none_of zero k h = omega arith
none_of (suc n) k h = let g : n ≤ k = none_of n k h.0 in let m : k ≡ n → ⊥ = h.1 in omega (arith, m)

-- the kind of a number, and past the end of the list none
module _ {l : List Branch} {s : List ℕ} {at start : ℕ} {o : List ℕ} where
  pub of-kind : {k n : ℕ} {c : Copy} {o' : List ℕ} → k ≡ n → CopiesOf l n s at start o c o' → CopiesIn l k s at start o c o'
  of-kind e d = record { copies = rw e d }

  pub no_kind : {k : ℕ} → NoneOf (length l) k → CopiesIn l k s at start o unknown o
  no_kind {k} h = record { copies = past l k (none_of (length l) k h) }
    where
      past : (l : List Branch) (k : ℕ) → length l ≤ k → CopiesOf l k s at start o unknown o
      past [] k h = (refl, refl)
      past (b ∷ l) zero h = absurd (omega arith)
      past (b ∷ l) (suc k) h = past l k (omega arith)

-- a kind of a list, in a list that it is a part of
module _ (s : List ℕ) (at start : ℕ) (o : List ℕ) (c : Copy) (o' : List ℕ) where
  in-front : (l r : List Branch) (k : ℕ) → k < length l → CopiesOf l k s at start o c o' → CopiesOf (l ++ r) k s at start o c o'
  in-front [] r k h p = absurd (omega arith)
  in-front (b ∷ l) r zero h p = p
  in-front (b ∷ l) r (suc k) h p = in-front l r k (omega arith) p

  behind : (f l : List Branch) (j k : ℕ) → k ≡ length f + j → CopiesOf l j s at start o c o' → CopiesOf (f ++ l) k s at start o c o'
  behind [] l j k e p = let g : j ≡ k = omega arith in subst (λ i. CopiesOf l i s at start o c o') g p
  behind (b ∷ f) l j zero e p = absurd (omega arith)
  behind (b ∷ f) l j (suc k) e p = behind f l j k (omega arith) p

module _ {s : List ℕ} {at start : ℕ} {o : List ℕ} {c : Copy} {o' : List ℕ} where
  pub kind-first : (l r : List Branch) {k : ℕ} → CopiesIn l k s at start o c o' → k < length l → CopiesOf (l ++ r) k s at start o c o'
  kind-first l r {k} d h = in-front s at start o c o' l r k h d.copies

  module _ (f l : List Branch) (k n : ℕ) where
    pub kind-amid : (r : List Branch) → CopiesIn l (k - n) s at start o c o' → n ≤ k → k - n < length l → n ≡ length f
        → CopiesOf (f ++ (l ++ r)) k s at start o c o'
    kind-amid r d h g e = behind s at start o c o' f (l ++ r) (k - n) k (omega arith) (kind-first l r d g)

    pub kind-last : CopiesIn l (k - n) s at start o c o' → n ≤ k → n ≡ length f → CopiesOf (f ++ l) k s at start o c o'
    kind-last d h e = behind s at start o c o' f l (k - n) k (omega arith) d.copies
