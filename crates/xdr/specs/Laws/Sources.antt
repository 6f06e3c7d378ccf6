-- A public writer of a message whose pieces lie in several sources: its needs in the shape of its goals; that with one source it is a
-- writer as any other; that its answer is one; and that what it wrote reads back as itself.
-- Assumes nothing.
use Rattle.std.specs.Prelude.{◌≡◌, refl, Bool, true, false, ◌&&◌, List, [], ◌++◌, ℕ, ◌-◌, ◌≤◌, ◌<◌, leb, length, take, drop, Result, Ok, Err}
use Rattle.std.proofs.Common.{sym, ap, ap₂, subst, ◌∙◌, arith, length-append, length-take-le, le-leb, leb-true, leb-false}
use Rattle.std.proofs.lemmas.Bool.{lt-leb}
use borrow.Rule.Slice.PartMut.{mid_of, put_mid}
use Rattle.xdr.specs.Meaning.Answer.{most, Written, done, unwritten}
use Rattle.xdr.specs.Meaning.Kind.{Codec}
use Rattle.xdr.specs.Meaning.Order.{placing}
use Rattle.xdr.specs.Meaning.Format.{Format, exactly}
use Rattle.xdr.specs.Meaning.Public.{writing, leaving, Writes}
use Rattle.xdr.specs.Meaning.Sources.{longer, WritesFrom, Stands}
use Rattle.xdr.specs.Meaning.Views.{view_wrote}
use Rattle.xdr.specs.Laws.Held.{means-taken}
use Rattle.xdr.specs.Laws.Public.{opened_in}
use Rattle.xdr.specs.Laws.Write.{Put, writes-done, wrote-back}
use Rattle.xdr.specs.Laws.Placing.{placing-done}
use Rattle.xdr.specs.Laws.Putting.{placed}
use Rattle.xdr.specs.declared.refusal.Refusal.{Refusal}

-- which of two lengths is the longer
pub longer-second : (a b : ℕ) → a ≤ b → b ≡ longer a b
longer-second a b h = sym (simp (le-leb a b h))

pub longer-first : (a b : ℕ) → b < a → a ≡ longer a b
longer-first a b h = sym (simp (lt-leb a b h))

-- each is at most that
pub first_short : (a b n : ℕ) → longer a b ≤ n → a ≤ n
first_short a b n h = go (leb a b) refl h
  where
    go : (t : Bool) → leb a b ≡ t → longer a b ≤ n → a ≤ n
    go true e g = let k : b ≤ n = rw e at g in let j = leb-true a b e in omega arith
    go false e g = rw e at g

pub second_short : (a b n : ℕ) → longer a b ≤ n → b ≤ n
second_short a b n h = go (leb a b) refl h
  where
    go : (t : Bool) → leb a b ≡ t → longer a b ≤ n → b ≤ n
    go true e g = rw e at g
    go false e g = let k : a ≤ n = rw e at g in let j = leb-false a b e in omega arith

-- a size counts only where the source and the pieces are in order
sized : (source : ℕ) (inside : Bool) (n k len at : ℕ) → (source ≤ most → inside ≡ true → k ≡ n)
    → placing source inside n len at ≡ placing source inside k len at
unfolding placing
sized source inside n k len at l = go (leb source most) inside refl refl
  where
    go : (t u : Bool) → leb source most ≡ t → inside ≡ u → placing source inside n len at ≡ placing source inside k len at
    go false u ht hu = simp ht
    go true false ht hu = simp (ht, hu)
    go true true ht hu = rw (l (leb-true source most ht) hu)

module _ {M : Type 0} {C : Codec M} (m : M) (source : ℕ) (inside : Bool) (n at : ℕ) (o : List ℕ) (w : Result ℕ Refusal)
    (e : view_wrote w ≡ placing source inside n (length o) at) (l : source ≤ most → inside ≡ true → length (C.kind.write m) ≡ n) where
  pub from-off : (q : Refusal) → w ≡ Err q → WritesFrom C m source inside at o (unwritten q) o
  from-off q f =
      record { says = sym (ap view_wrote f) ∙ e ∙ sized source inside n (length (C.kind.write m)) (length o) at l; leaves = refl; good = tt }

  pub from_on : (k : ℕ) (zs : List ℕ) → w ≡ Ok k → Put (mid_of at (length o - at) o) zs n (C.kind.write m) → C.kind.Good m
      → WritesFrom C m source inside at o (done k) (put_mid at (length o - at) o zs)
  from_on k zs f p good =
      let d = placed source inside n (length o) at w k e f in
      let z = l d.short d.inside in
      let c = writes-done (exactly C) [] m at o d.starts (omega arith) refl (omega (arith, d.small)) good d.ends p in
      subst (λ z. WritesFrom C m source inside at o z (put_mid at (length o - at) o zs)) (ap done (sym d.next))
      (record { says = ap done (sym d.next) ∙ sym (ap view_wrote f) ∙ e ∙ sized source inside n (length (C.kind.write m)) (length o) at l; leaves = c.leaves; good = c.good })

-- by what the code found: the longer source, whether both pieces lie inside, and the size
pub placing-two : (a b : ℕ) (x y : Bool) (n len at lng k : ℕ) (i j h : Bool) {w : Written} → w ≡ placing lng i k len at → lng ≡ longer a b
    → i ≡ (j && h) → j ≡ x → h ≡ y → k ≡ n → w ≡ placing (longer a b) (x && y) n len at
placing-two a b x y n len at lng k i j h e f g u v l =
    e ∙ ap (λ z. placing z i k len at) f ∙ ap₂ (λ z q. placing (longer a b) z q len at) (g ∙ ap₂ (λ z q. z && q) u v) l

-- with one source it is a writer as any other
pub one-source : {M S : Type 0} (F : Format M S) (s : List ℕ) (x : S) (at : ℕ) (o : List ℕ) (w : Written) (o' : List ℕ)
    → WritesFrom F.codec (F.held.mean s x) (length s) (F.held.inside s x) at o w o' → Writes F s x at o w o'
unfolding writing
one-source F s x at o (done n) o' c = record { says = c.says; leaves = c.leaves; good = c.good }
one-source F s x at o (unwritten r) o' c = record { says = c.says; leaves = c.leaves; good = c.good }

-- two permitted answers are one
pub from_one : {M : Type 0} (C : Codec M) (m : M) (longest : ℕ) (inside : Bool) (at : ℕ) (o : List ℕ) (v w : Written) (p q : List ℕ)
    → WritesFrom C m longest inside at o v p → WritesFrom C m longest inside at o w q → (v ≡ w) × (p ≡ q)
from_one C m longest inside at o v w p q c d =
    let e : v ≡ w = c.says ∙ sym d.says in
    (e, c.leaves ∙ ap (λ z. leaving (exactly C) [] m z at o) e ∙ sym d.leaves)

-- what was written reads back as itself, by exactly its bytes
pub from_back : {M S : Type 0} (F : Format M S) (m : M) (longest : ℕ) (inside : Bool) (at : ℕ) (o : List ℕ) (n : ℕ) (o' : List ℕ)
    → WritesFrom F.codec m longest inside at o (done n) o' → Stands F m at n o'
unfolding writing
from_back F m longest inside at o n o' c =
    let d = placed longest inside (length (F.codec.kind.write m)) (length o) at (Ok n) n c.says refl in
    let e = placing-done 0 true (length (F.codec.kind.write m)) (length o) at d.starts (omega arith) refl d.small (omega (arith, d.ends)) in
    let b = wrote-back (exactly F.codec) [] m at o (record { says = ap done d.next ∙ e; leaves = c.leaves; good = c.good }) in
    let h = means-taken F.held o' at b.reads in
    let within : at ≤ length o' = omega
    (arith, ap length c.leaves, length-append (take at o) (F.codec.kind.write m ++ drop n o), length-take-le at o d.starts) in
    record { bytes = b.bytes; answers = λ l a. (h.0, a.is ∙ opened_in o' at (F.held.read o' at) l within ∙ h.1, h.2) }

pub ruleset sources = (from-off, from_on)
