-- Demands 2 and 3 hold of the answers of every public reader, and what it answers by the tests that come first.
-- Assumes nothing.
use Rattle.std.specs.Prelude.{◌↔◌, ◌⊎◌, Bool, List, ◌++◌, ℕ, ◌-◌, ◌<◌, ◌≤◌, get_or, Result, Ok, Err}
use Rattle.std.proofs.Math.Logic.{inl, inr}
use Rattle.std.proofs.Math.Path.{◌≡◌, refl, sym}
use Rattle.std.proofs.Common.{ap, ap₂, subst, ◌∙◌, arith, length-append, Fits}
use Rattle.std.proofs.Math.Bool.{true, false}
use Rattle.std.proofs.Math.Dec.{leb}
use Rattle.std.proofs.Math.ListN.{length}
use borrow.Author.Tests.{le-leb, lt-leb, leb-true}
use Rattle.std.specs.Int.{w8}
use Rattle.xdr.specs.Meaning.Answer.{Answer, took, refused, map_answer, Came, most, opened}
use Rattle.xdr.specs.Meaning.Promise.{Begins, Accepted, Reading, Wants}
use Rattle.xdr.specs.Meaning.Format.{Format}
use Rattle.xdr.specs.Meaning.Public.{Answers, Took, message, Later, Kept}
use Rattle.xdr.specs.Laws.Lists.{known_bytes}
use Rattle.xdr.specs.Laws.Held.{taken-means, refused-means, taken-inside}
use Rattle.xdr.specs.Laws.Promise.{keeps}
use Rattle.xdr.specs.Meaning.Views.{view_opening}
use Rattle.xdr.specs.declared.refusal.Refusal.{Refusal}
use Rattle.xdr.specs.declared.refusal.Refusal.TheVariants.{Ended, TooLong, PastEnd}
use Rattle.xdr.specs.Meaning.Refusal.{OfReading, wanting_of}

module _ {A : Type 0} (s : List ℕ) (p : ℕ) where
  pub opened-long : (x : Answer A) → most < length s → opened s p x ≡ refused TooLong
  unfolding opened
  opened-long x h = simp (lt-leb (length s) most h)

  pub opened-past : (x : Answer A) → length s ≤ most → length s < p → opened s p x ≡ refused PastEnd
  unfolding opened
  opened-past x h g = simp (le-leb (length s) most h, lt-leb p (length s) g)

  pub opened_in : (x : Answer A) → length s ≤ most → p ≤ length s → opened s p x ≡ x
  unfolding opened
  opened_in x h g = simp (le-leb (length s) most h, le-leb p (length s) g)

  -- what is taken was read, of a message that is not too long, at a place that is in it
  pub opened-took : (x : Answer A) {a : A} {n : ℕ} {b : Bool} → took a n b ≡ opened s p x
      → (x ≡ took a n b) × (length s ≤ most) × (p ≤ length s)
  unfolding opened
  opened-took x {a} {n} {b} e = by-long (leb (length s) most) refl (leb p (length s)) refl
    where
      by-long : (t : Bool) → leb (length s) most ≡ t → (u : Bool) → leb p (length s) ≡ u → (x ≡ took a n b) × (length s ≤ most) × (p ≤ length s)
      by-long true h true g = (sym (simp (h, g) at e), leb-true (length s) most h, leb-true p (length s) g)
      by-long true h false g =
          let f : ◌≡◌ {A = Answer A} (took a n b) (refused PastEnd) = simp (h, g) at e in
          let z : ◌≡◌ {A = ℕ} 0 1 = cc in absurd (omega arith)
      by-long false h u g =
          let f : ◌≡◌ {A = Answer A} (took a n b) (refused TooLong) = simp h at e in
          let z : ◌≡◌ {A = ℕ} 0 1 = cc in absurd (omega arith)

-- refused before it reads, whatever stands there
opened-off : {A B : Type 0} (s : List ℕ) (p : ℕ) (a : A) (y : Answer B) {r : Refusal} → refused r ≡ opened s p (took a p true) → refused r ≡ opened s p y
unfolding opened
opened-off {A} s p a y {r} e = by (leb (length s) most) refl (leb p (length s)) refl
  where
    by : (t : Bool) → leb (length s) most ≡ t → (u : Bool) → leb p (length s) ≡ u → refused r ≡ opened s p y
    by true h true g =
        let f : ◌≡◌ {A = Answer A} (refused r) (took a p true) = simp (h, g) at e in
        let z : ◌≡◌ {A = ℕ} 0 1 = cc in absurd (omega arith)
    by true h false g =
        let f : ◌≡◌ {A = Answer A} (refused r) (refused PastEnd) = simp (h, g) at e in
        let i : r ≡ PastEnd = cc in rw (h, g, i)
    by false h u g =
        let f : ◌≡◌ {A = Answer A} (refused r) (refused TooLong) = simp h at e in
        let i : r ≡ TooLong = cc in rw (h, i)

-- what a public reader answers; `given` is what a slice's rule gives
module _ {M S : Type 0} (F : Format M S) (s : List ℕ) (p : ℕ) (given : (i : ℕ) → Fits w8 (get_or s i 0)) {r : Result (Unit {0}) Refusal}
    (e : view_opening p r ≡ opened s p (took tt p true)) where
  -- it may not read
  pub answers-off : {q : Refusal} → r ≡ Err q → Answers F s p (refused q)
  answers-off f =
      record { is = opened-off s p tt (F.held.read s p) (sym (ap (view_opening p) f) ∙ e); bytes = known_bytes s given }

  -- it may
  pub answers-on : {a : Answer S} {u : Unit {0}} → r ≡ Ok u → a ≡ F.held.read s p → Answers F s p a
  answers-on f g =
      let o = opened-took s p (took tt p true) (sym (ap (view_opening p) f) ∙ e) in
      record { is = g ∙ sym (opened_in s p (F.held.read s p) o.1 o.2); bytes = known_bytes s given }

module _ {M S : Type 0} (F : Format M S) where
  pub reading : Took F → Reading F.codec.kind
  reading t =
      let o = opened-took t.source t.place (F.held.read t.source t.place) t.answers.is in
      record {
        input = t.source;
        place = t.place;
        message = message F t;
        next = t.next;
        plain = t.plain;
        bytes = t.answers.bytes;
        inside = o.2;
        reads = taken-means F.held t.source t.place o.0;
      }

  -- it is of the same message, by the same bytes
  pub reading-is : (t : Took F) → ((reading t).message ≡ message F t) × ((reading t).next ≡ t.next) × ((reading t).place ≡ t.place)
  unfolding reading
  reading-is t = (refl, refl, refl)

  took-begins : (s : List ℕ) (p : ℕ) {a : Answer S} → Answers F s p a → (x : S) × (n : ℕ) × (b : Bool) × (a ≡ took x n b)
      → (length s ≤ most) × (p ≤ length s) × Begins F.codec.kind s p
  took-begins s p c t =
      let o = opened-took s p (F.held.read s p) (sym t.3 ∙ c.is) in (
        o.1,
        o.2,
        ((keeps F.codec).accepted_iff s p c.bytes).0
            (record { message = F.held.mean s t.0; next = t.1; plain = t.2; reads = taken-means F.held s p o.0 }),
      )

  held-took : (s : List ℕ) (p : ℕ) (z : Answer S) → F.held.read s p ≡ z → Accepted F.codec.kind s p
      → (x : S) × (n : ℕ) × (b : Bool) × (F.held.read s p ≡ took x n b)
  held-took s p (took x n b) e a = (x, n, b, e)
  held-took s p (refused r) e a =
      let f : F.codec.kind.read s p ≡ refused r = refused-means F.held s p e in
      let z : ◌≡◌ {A = ℕ} 0 1 = cc (f, a.reads) in absurd (omega arith)

  begins-took : (s : List ℕ) (p : ℕ) {a : Answer S} → Answers F s p a → (length s ≤ most) × (p ≤ length s) × Begins F.codec.kind s p
      → (x : S) × (n : ℕ) × (b : Bool) × (a ≡ took x n b)
  begins-took s p c g =
      let a = held-took s p (F.held.read s p) refl (((keeps F.codec).accepted_iff s p c.bytes).1 g.2) in
      (a.0, a.1, a.2, c.is ∙ opened_in s p (F.held.read s p) g.0 g.1 ∙ a.3)

  held-refused : (s : List ℕ) (p : ℕ) {r : Refusal} → F.codec.kind.read s p ≡ refused r → (z : Answer S) → F.held.read s p ≡ z → z ≡ refused r
  held-refused s p {r} e (took x n b) f =
      let g : ◌≡◌ {A = Answer M} (took (F.held.mean s x) n b) (refused r) = sym (taken-means F.held s p f) ∙ e in
      let z : ◌≡◌ {A = ℕ} 0 1 = cc in absurd (omega arith)
  held-refused s p {r} e (refused q) f =
      let g : ◌≡◌ {A = Answer M} (refused q) (refused r) = sym (refused-means F.held s p f) ∙ e in
      let h : q ≡ r = cc in ap refused h

  fault-of : (s : List ℕ) (p : ℕ) (r : Refusal) {a : Answer S} → Answers F s p a → length s ≤ most → p ≤ length s
      → (a ≡ refused r) ↔ F.codec.kind.Fault s p r
  fault-of s p r c h k =
      let i = c.is ∙ opened_in s p (F.held.read s p) h k in
      let f = (keeps F.codec).fault_iff s p r c.bytes in (
        (λ e. f.0 (refused-means F.held s p (sym i ∙ e))),
        (λ e. i ∙ held-refused s p (f.1 e) (F.held.read s p) refl),
      )

  numbered : (s : List ℕ) (p : ℕ) {r : Refusal} → Answers F s p (refused r) → (r ≡ TooLong) ⊎ ((r ≡ PastEnd) ⊎ OfReading r)
  unfolding opened
  numbered s p {r} c = by (leb (length s) most) refl (leb p (length s)) refl
    where
      by : (t : Bool) → leb (length s) most ≡ t → (u : Bool) → leb p (length s) ≡ u → (r ≡ TooLong) ⊎ ((r ≡ PastEnd) ⊎ OfReading r)
      by false h u k =
          let f : ◌≡◌ {A = Answer S} (refused r) (refused TooLong) = simp h at c.is in
          inl (cc)
      by true h false k =
          let f : ◌≡◌ {A = Answer S} (refused r) (refused PastEnd) = simp (h, k) at c.is in
          inr (inl (cc))
      by true h true k =
          inr (inr (F.codec.laws.numbered s p r ((fault-of s p r c (leb-true (length s) most h) (leb-true p (length s) k)).0 refl)))

  -- what was refused by 1, 2 or 10 was read, and refused there
  opened-refused : (s : List ℕ) (p : ℕ) {r : Refusal} → OfReading r → Answers F s p (refused r)
      → (F.codec.kind.read s p ≡ refused r) × (length s ≤ most) × (p ≤ length s)
  unfolding opened
  opened-refused s p {r} o c = by (leb (length s) most) refl (leb p (length s)) refl
    where
      by : (t : Bool) → leb (length s) most ≡ t → (u : Bool) → leb p (length s) ≡ u → (F.codec.kind.read s p ≡ refused r) × (length s ≤ most) × (p ≤ length s)
      by false h u k =
          let f : ◌≡◌ {A = Answer S} (refused r) (refused TooLong) = simp h at c.is in
          let e : r ≡ TooLong = cc in absurd (subst OfReading e o)
      by true h false k =
          let f : ◌≡◌ {A = Answer S} (refused r) (refused PastEnd) = simp (h, k) at c.is in
          let e : r ≡ PastEnd = cc in absurd (subst OfReading e o)
      by true h true k =
          let f : refused r ≡ F.held.read s p = simp (h, k) at c.is in
          (refused-means F.held s p (sym f), leb-true (length s) most h, leb-true p (length s) k)

  -- the later answer is the reading
  module _ {s t : List ℕ} {p : ℕ} {a a' : Answer S} (l : Later F s t p a a') where
    later-in : p ≤ length s → a' ≡ F.held.read (s ++ t) p
    later-in h = l.then.is ∙ opened_in (s ++ t) p (F.held.read (s ++ t) p) l.fits (omega (arith, length-append s t))

    later-refused : p ≤ length s → {r : Refusal} → F.codec.kind.read (s ++ t) p ≡ refused r → a' ≡ refused r
    later-refused h e = later-in h ∙ held-refused (s ++ t) p e (F.held.read (s ++ t) p) refl

  stays : {s t : List ℕ} {p : ℕ} {x : S} {n : ℕ} {b : Bool} {a : Answer S} → Later F s t p (took x n b) a
      → (y : S) × (a ≡ took y n b) × (F.held.mean (s ++ t) y ≡ F.held.mean s x)
  stays {s} {t} {p} {x} {n} {b} {a} l =
      let o = opened-took s p (F.held.read s p) l.before.is in
      let r : Reading F.codec.kind =
      record {
        input = s;
        place = p;
        message = F.held.mean s x;
        next = n;
        plain = b;
        bytes = l.before.bytes;
        inside = o.2;
        reads = taken-means F.held s p o.0;
      } in
      by (F.held.read (s ++ t) p) refl (sym (F.held.agrees (s ++ t) p) ∙ (keeps F.codec).stays r t) o.2
    where
      by : (z : Answer S) → F.held.read (s ++ t) p ≡ z → map_answer (F.held.mean (s ++ t)) z ≡ took (F.held.mean s x) n b → p ≤ length s
          → (y : S) × (a ≡ took y n b) × (F.held.mean (s ++ t) y ≡ F.held.mean s x)
      by (took y n' b') e f h =
          let i : took y n' b' ≡ took y n b = ap₂ (λ (n : ℕ) b. took y n b) (cc) (cc) in
          (y, later-in l h ∙ e ∙ i, cc)
      by (refused r) e f h = let z : ◌≡◌ {A = ℕ} 0 1 = cc in absurd (omega arith)

  final : {s t : List ℕ} {p : ℕ} {r : Refusal} {a : Answer S} → wanting_of r ≡ 0 → Later F s t p (refused r) a → OfReading r → a ≡ refused r
  final {s} {t} {p} {r} none l i =
      let o = opened-refused s p i l.before in
      later-refused l o.2 ((keeps F.codec).final s t p r none l.before.bytes o.2 o.0)

  wanting : {s : List ℕ} {p q w : ℕ} → Answers F s p (refused (Ended q w)) → Wants F.codec.kind s p q w
  wanting {s} {p} {q} {w} c =
      let o = opened-refused s p tt c in
      (keeps F.codec).wants s p q w c.bytes o.2 o.0

  some : {s : List ℕ} {p q w : ℕ} → Answers F s p (refused (Ended q w)) → 0 < w
  some c = (wanting c).some

  few : {s t : List ℕ} {p q w : ℕ} {a : Answer S} → Later F s t p (refused (Ended q w)) a → length t < w → a ≡ refused (Ended q (w - length t))
  few {s} {t} {p} l h = later-refused l (opened-refused s p tt l.before).2 ((wanting l.before).few t h)

  -- the reading that holds goes as far as the codec's
  came_held : (s t : List ℕ) (q : ℕ) (z : Answer S) → Came s t q (map_answer (F.held.mean (s ++ t)) z) → Came s t q z
  came_held s t q (took y n b) (inl e) = inl e
  came_held s t q (took y n b) (inr g) =
      let f : ◌≡◌ {A = Answer M} (took (F.held.mean (s ++ t) y) n b) (refused (Ended q g.wanting)) = g.is in
      let z : ◌≡◌ {A = ℕ} 0 1 = cc in absurd (omega arith)
  came_held s t q (refused r) (inl e) = inl e
  came_held s t q (refused r) (inr g) =
      let f : ◌≡◌ {A = Answer M} (refused r) (refused (Ended q g.wanting)) = g.is in
      let e : r ≡ Ended q g.wanting = cc in
      inr (record { cut = g.cut; whole = g.whole; wanting = g.wanting; is = ap refused e })

  enough : {s t : List ℕ} {p q w : ℕ} {a : Answer S} → Later F s t p (refused (Ended q w)) a → length t ≡ w → Came s t q a
  enough {s} {t} {p} {q} l e =
      let h = (opened-refused s p tt l.before).2 in
      subst (Came s t q) (sym (later-in l h))
      (came_held s t q (F.held.read (s ++ t) p)
      (subst (Came s t q) (F.held.agrees (s ++ t) p) ((wanting l.before).enough t l.then.bytes e)))

  pub kept : Kept F
  unfolding reading
  kept =
      record {
        accepted_iff = λ s p c. (took-begins s p c, begins-took s p c);
        inside = λ t.
            taken-inside F.held t.source t.place
            (opened-took t.source t.place (F.held.read t.source t.place) t.answers.is).0;
        in_range = λ t. (keeps F.codec).in_range (reading t);
        within = λ t. (keeps F.codec).within (reading t);
        same_iff = λ t t'. (keeps F.codec).same_iff (reading t) (reading t');
        fault_iff = λ s p r c h k. fault-of s p r c h k;
        numbered = λ s p c. numbered s p c;
        again = λ t. (keeps F.codec).again (reading t);
        rewrites = λ t. (keeps F.codec).rewrites (reading t);
        plain_iff = λ t. (keeps F.codec).plain_iff (reading t);
        formed = λ t. (keeps F.codec).formed (reading t);
        one_list = λ t. (keeps F.codec).one_list (reading t);
        clean_iff = λ t. (keeps F.codec).clean_iff (reading t);
        stays = stays;
        final = final;
        some = some;
        few = few;
        enough = enough;
        one = λ s p c d. c.is ∙ sym d.is;
      }
