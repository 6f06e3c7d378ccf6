-- Two linked lists of one format's messages, walked side by side: what a loop that compares them keeps.
-- Assumes nothing.
use Rattle.std.specs.Prelude.{◌≡◌, refl, Bool, true, false, not, List, [], ◌∷◌, ℕ, ◌-◌, ◌<◌, length, get_or, Result, Ok, Err, Some, None}
use Rattle.std.specs.Prelude as std
use Rattle.std.proofs.Common.{sym, ap, ap₂, subst, ◌∙◌, arith, Fits}
use Rattle.std.proofs.Math.Option.{Option, none, some}
use Rattle.std.specs.Int.{w8}
use Rattle.xdr.specs.Meaning.Answer.{Answer, took, refused}
use Rattle.xdr.specs.Meaning.Bytes.{Bytes}
use Rattle.xdr.specs.Meaning.Format.{Format, optional}
use Rattle.xdr.specs.Meaning.Linked.{elements_of, has_count}
use Rattle.xdr.specs.Meaning.Lists.{linked, list_of}
use Rattle.xdr.specs.Meaning.Views.{view, view_option}
use Rattle.xdr.specs.Laws.Linked.{put, optional-some}
use Rattle.xdr.specs.Laws.Lists.{known_bytes}
use Rattle.xdr.specs.Laws.Walks.{list-ends, list-goes, list-refused}
use Rattle.xdr.specs.declared.answer.Took.{Took}
use Rattle.xdr.specs.declared.piece.Piece.{Piece}
use Rattle.xdr.specs.declared.refusal.Refusal.{Refusal}
use Rattle.mount.specs.Meaning.Options.{option_to_from, option_cases}
use Rattle.mount.specs.Meaning.Same.{Alike}
use Rattle.mount.specs.Laws.Next.{Steps, step-off, step-on, step-at}

abbrev pub is_took : {A : Type 0} → Answer A → Bool
is_took (took a n b) = true
is_took (refused r) = false

-- what the loop over two lists that begin at p and q keeps, before the places i and j: what is left reads, and is the same exactly if they are
pub record Along {M S : Type 0} (F : Format M S) (s : List ℕ) (p : ℕ) (t : List ℕ) (q i j : ℕ) : Type 0 where
  pub left : is_took ((linked F).kind.read s i) ≡ true
  pub right : is_took ((linked F).kind.read t j) ≡ true
  pub ahead : elements_of ((linked F).kind.read s i) ≡ elements_of ((linked F).kind.read t j)
      → elements_of ((linked F).kind.read s p) ≡ elements_of ((linked F).kind.read t q)
  pub back : elements_of ((linked F).kind.read s p) ≡ elements_of ((linked F).kind.read t q)
      → elements_of ((linked F).kind.read s i) ≡ elements_of ((linked F).kind.read t j)

pub untrue : {P : Type 0} → false ≡ true → P
untrue e = let z : ◌≡◌ {A = ℕ} 0 1 = cc in absurd (omega arith)

pub counted : {M : Type 0} (n : ℕ) (z : Answer (List M)) → has_count n z ≡ true → is_took z ≡ true
counted n (took l m b) h = refl
counted n (refused r) h = h

module _ {M S : Type 0} (F : Format M S) where
  pub along-starts : (s : List ℕ) (x : Piece) (t : List ℕ) (y : Piece) → (list_of F).held.inside s x ≡ true → (list_of F).held.inside t y ≡ true
      → Along F s x.at t y.at x.at y.at
  along-starts s x t y h g =
      record {
        left = counted x.count ((linked F).kind.read s x.at) h;
        right = counted y.count ((linked F).kind.read t y.at) g;
        ahead = λ e. e;
        back = λ e. e;
      }

  -- a list that reads is not refused at its first step
  module _ (s : List ℕ) (h : Bytes s) (i : ℕ) (a : is_took ((linked F).kind.read s i) ≡ true) where
    reads_on : {r : Refusal} → (optional F).held.read s i ≡ refused r → ⊥
    reads_on e = untrue (sym (ap is_took (list-refused F s h i e)) ∙ a)

    none_left : {n : ℕ} {b : Bool} → (optional F).held.read s i ≡ took none n b → elements_of ((linked F).kind.read s i) ≡ []
    none_left e = ap elements_of (list-ends F s h i e)

    module _ {v : S} {n : ℕ} {b : Bool} (e : (optional F).held.read s i ≡ took (some v) n b) where
      put-took : (z : Answer (List M)) → is_took (put (optional F).codec (optional-some F) (F.held.mean s v) b z) ≡ is_took z
      put-took (took l m c) = refl
      put-took (refused r) = refl

      put-elements : (z : Answer (List M)) → is_took z ≡ true
          → elements_of (put (optional F).codec (optional-some F) (F.held.mean s v) b z) ≡ F.held.mean s v ∷ elements_of z
      put-elements (took l m c) f = refl
      put-elements (refused r) f = untrue f

      rest-took : is_took ((linked F).kind.read s n) ≡ true
      rest-took = sym (put-took ((linked F).kind.read s n)) ∙ sym (ap is_took (list-goes F s h i e)) ∙ a

      one_left : elements_of ((linked F).kind.read s i) ≡ F.held.mean s v ∷ elements_of ((linked F).kind.read s n)
      one_left = ap elements_of (list-goes F s h i e) ∙ put-elements ((linked F).kind.read s n) rest-took

  empty : {m : M} {l : List M} → [] ≡ m ∷ l → ⊥
  empty e = let z : ◌≡◌ {A = ℕ} 0 1 = cc in omega arith

  missing : {m : M} → none ≡ some m → ⊥
  missing e = let z : ◌≡◌ {A = ℕ} 0 1 = cc in omega arith

  module _ {s : List ℕ} {p : ℕ} {t : List ℕ} {q i j : ℕ} (a : Along F s p t q i j) (h : Bytes s) (g : Bytes t) where
    abbrev Equals : Type 0
    Equals = elements_of ((linked F).kind.read s p) ≡ elements_of ((linked F).kind.read t q)

    module _ {m n : ℕ} {b c : Bool} where
      -- what is found on either side is not the same
      pub steps-differ : (o v : Option S) → (optional F).held.read s i ≡ took o m b → (optional F).held.read t j ≡ took v n c
          → ¬ ((optional F).held.mean s o ≡ (optional F).held.mean t v) → ¬ Equals
      steps-differ none none e f d k = d refl
      steps-differ none (some y) e f d k = empty (sym (none_left s h i a.left e) ∙ a.back k ∙ one_left t g j a.right f)
      steps-differ (some x) none e f d k = empty (sym (none_left t g j a.right f) ∙ sym (a.back k) ∙ one_left s h i a.left e)
      steps-differ (some x) (some y) e f d k =
          let z = sym (one_left s h i a.left e) ∙ a.back k ∙ one_left t g j a.right f in
          let w : F.held.mean s x ≡ F.held.mean t y = cc z in d (ap some w)

      -- or it is the end
      pub steps-end : (v : Option S) → (optional F).held.read s i ≡ took none m b → (optional F).held.read t j ≡ took v n c
          → none ≡ (optional F).held.mean t v → Equals
      steps-end none e f d = a.ahead (none_left s h i a.left e ∙ sym (none_left t g j a.right f))
      steps-end (some y) e f d = absurd (missing d)

      -- or an element
      pub steps-go : (x : S) (v : Option S) → (optional F).held.read s i ≡ took (some x) m b → (optional F).held.read t j ≡ took v n c
          → some (F.held.mean s x) ≡ (optional F).held.mean t v → Along F s p t q m n
      steps-go x none e f d = absurd (missing (sym d))
      steps-go x (some y) e f d =
          let w : F.held.mean s x ≡ F.held.mean t y = cc d in
          record {
            left = rest-took s h i a.left e;
            right = rest-took t g j a.right f;
            ahead = λ k. a.ahead (one_left s h i a.left e ∙ ap₂ (λ u v. u ∷ v) w k ∙ sym (one_left t g j a.right f));
            back = λ k. let z = sym (one_left s h i a.left e) ∙ a.back k ∙ one_left t g j a.right f in cc z;
          }

-- in the shape of the goals of either loop
module _ {M S : Type 0} {F : Format M S} (W : Steps F) where
  pub walk-starts : (s : List ℕ) (x : Piece) (t : List ℕ) (y : Piece) → W.list.held.inside s x ≡ true → W.list.held.inside t y ≡ true
      → Along F s x.at t y.at x.at y.at
  walk-starts s x t y h g =
      along-starts F s x t y (subst (λ L. L.held.inside s x ≡ true) W.list-is h) (subst (λ L. L.held.inside t y ≡ true) W.list-is g)

  -- what was found, as an option
  module _ (s : List ℕ) (u : std.Option S) (o : Option S) (e : u ≡ option_cases.to o) where
    from_is : view_option u ≡ o
    from_is = ap view_option e ∙ option_cases.from_to o

    mean-is : W.next.held.mean s u ≡ (optional F).held.mean s o
    mean-is = ap (λ N. N.held.mean s u) W.next-is ∙ ap ((optional F).held.mean s) from_is

    inside_is : W.next.held.inside s u ≡ (optional F).held.inside s o
    inside_is = ap (λ N. N.held.inside s u) W.next-is ∙ ap ((optional F).held.inside s) from_is

  -- two of them are compared by their cases
  pub found_inside : (s : List ℕ) (u : std.Option S) (z : S) → W.next.held.inside s u ≡ true → u ≡ Some z → F.held.inside s z ≡ true
  found_inside s u z h e = sym (inside_is s u (some z) e) ∙ h

  module _ (s : List ℕ) (u : std.Option S) (t : List ℕ) (v : std.Option S) where
    pub found-ends : u ≡ None → v ≡ None → Alike W.next s u t v true
    found-ends e f = record { tells = mean-is s u none e ∙ sym (mean-is t v none f) }

    pub found-end : (z : S) → u ≡ None → v ≡ Some z → Alike W.next s u t v false
    found-end z e f = record { tells = λ k. missing F (sym (mean-is s u none e) ∙ k ∙ mean-is t v (some z) f) }

    pub found-more : (z : S) → u ≡ Some z → v ≡ None → Alike W.next s u t v false
    found-more z e f = record { tells = λ k. missing F (sym (mean-is t v none f) ∙ sym k ∙ mean-is s u (some z) e) }

    pub found-both : (x y : S) (r : Bool) → u ≡ Some x → v ≡ Some y → Alike F s x t y r → Alike W.next s u t v r
    found-both x y true e f a = record { tells = mean-is s u (some x) e ∙ ap some a.tells ∙ sym (mean-is t v (some y) f) }
    found-both x y false e f a =
        record {
          tells = λ k.
              let z : some (F.held.mean s x) ≡ some (F.held.mean t y) = sym (mean-is s u (some x) e) ∙ k ∙ mean-is t v (some y) f in
              a.tells (cc z);
        }

  -- no step is refused
  module _ (s : List ℕ) (x : Piece) (t : List ℕ) (y : Piece) (i j : ℕ) (w : Along F s x.at t y.at i j) (a : Result (Took (std.Option S)) Refusal) (r : Refusal) (f : a ≡ Err r) where
    pub step_left : ((k : ℕ) → Fits w8 (get_or s k 0)) → view a ≡ W.next.held.read s i → Alike W.list s x t y false
    step_left h e = absurd (reads_on F s (known_bytes s h) i w.left (step-off W s i a e r f))

    pub step_right : ((k : ℕ) → Fits w8 (get_or t k 0)) → view a ≡ W.next.held.read t j → Alike W.list s x t y false
    step_right h e = absurd (reads_on F t (known_bytes t h) j w.right (step-off W t j a e r f))

  -- a step on either side
  module _ (s : List ℕ) (x : Piece) (t : List ℕ) (y : Piece) (i j : ℕ) (w : Along F s x.at t y.at i j) (h : (k : ℕ) → Fits w8 (get_or s k 0))
      (g : (k : ℕ) → Fits w8 (get_or t k 0)) (a b : Result (Took (std.Option S)) Refusal) (e : view a ≡ W.next.held.read s i) (f : view b ≡ W.next.held.read t j)
      (u v : Took (std.Option S)) (k : a ≡ Ok u) (l : b ≡ Ok v) (r : Bool) (q : Alike W.next s u.value t v.value r) where
    left-on : (o : Option S) → u.value ≡ option_cases.to o → (optional F).held.read s i ≡ took o u.next u.plain
    left-on o p = step-at W s i a e u k o p

    right-on : (optional F).held.read t j ≡ took (view_option v.value) v.next v.plain
    right-on = step-on W t j b f v l

    right-mean : W.next.held.mean t v.value ≡ (optional F).held.mean t (view_option v.value)
    right-mean = mean-is t v.value (view_option v.value) (sym (option_to_from v.value))

    same-mean : (o : Option S) → u.value ≡ option_cases.to o → r ≡ true → (optional F).held.mean s o ≡ (optional F).held.mean t (view_option v.value)
    same-mean o p z = sym (mean-is s u.value o p) ∙ (subst (Alike W.next s u.value t v.value) z q).tells ∙ right-mean

    pub walk-differs : r ≡ false → Alike W.list s x t y false
    walk-differs z =
        let p : u.value ≡ option_cases.to (view_option u.value) = sym (option_to_from u.value) in
        let no =
        steps-differ
        F w (known_bytes s h) (known_bytes t g) (view_option u.value) (view_option v.value) (left-on (view_option u.value) p) right-on
        (λ z'. (subst (Alike W.next s u.value t v.value) z q).tells (mean-is s u.value (view_option u.value) p ∙ z' ∙ sym right-mean)) in
        record { tells = λ z'. no (subst (λ L. L.held.mean s x ≡ L.held.mean t y) W.list-is z') }

    pub walk_ends : r ≡ true → u.value ≡ None → Alike W.list s x t y true
    walk_ends z p =
        record {
          tells =
              subst (λ L. L.held.mean s x ≡ L.held.mean t y) (sym W.list-is)
              (steps-end F w (known_bytes s h) (known_bytes t g) (view_option v.value) (left-on none p) right-on (same-mean none p z));
        }

    pub walk-on : r ≡ true → (z : S) → u.value ≡ Some z → Along F s x.at t y.at u.next v.next
    walk-on z o p =
        steps-go F w (known_bytes s h) (known_bytes t g) o (view_option v.value) (left-on (some o) p) right-on (same-mean (some o) p z)
