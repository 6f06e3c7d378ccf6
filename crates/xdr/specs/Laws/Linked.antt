-- Linked lists are lawful, and are read element by element.
-- Assumes nothing.
use Rattle.std.specs.Prelude.{◌≡◌, refl, ◌↔◌, Bool, true, ◌&&◌, List, [], ◌∷◌, ◌++◌, ℕ, zero, suc, ◌+◌, ◌-◌, ◌≤◌, ◌<◌, length}
use Rattle.std.proofs.Common.{sym, ap, ap₂, ◌∙◌, inl, inr, append-nil, arith, length-append, eq-eqb}
use Rattle.std.proofs.Math.Bool.{and-true}
use Rattle.std.proofs.Math.Option.{Option, none, some}
use Rattle.xdr.specs.Meaning.Bytes.{Bytes, Stands}
use Rattle.xdr.specs.Meaning.Refusal.{TooFew, less_by}
use Rattle.xdr.specs.Meaning.Answer.{Answer, took, refused, map_answer, Taken, Came, Way, Loose, here, shifted, clean}
use Rattle.xdr.specs.Meaning.Format.{Format, optional}
use Rattle.xdr.specs.Laws.Lengths.{flag-lengths}
use Rattle.xdr.specs.Meaning.Kind.{Sound, Lawful, Codec}
use Rattle.xdr.specs.Meaning.Combinators.{means}
use Rattle.xdr.specs.Laws.Lists.{room}
use Rattle.xdr.specs.declared.refusal.Refusal.{Refusal}
use Rattle.xdr.specs.declared.refusal.Refusal.TheVariants.{Ended}
use Rattle.xdr.specs.Meaning.Linked.{Rest, rest, join, fewer, linked_kind, placed_at, elements_of, has_count}

-- an optional element takes a byte at least
module _ {M : Type 0} (O : Codec (Option M)) (some_bytes : (o : Option M) (w : List Loose) (e : List ℕ) → O.kind.Form o w e → 0 < length e) where
  -- what stands behind the first element, by what is known of every rest
  rest-moved : (D E : Codec (List M)) (n : ℕ) → ((l : List M) (w : List Loose) (e : List ℕ) → D.kind.Form l w e → length l < n → E.kind.Form l w e)
      → (o : Option M) (x : Rest O o) (w : List Loose) (e : List ℕ) → (rest O D o).kind.Form x w e → length (join O o x) < suc n
      → (rest O E o).kind.Form x w e
  rest-moved D E n g none x w e f h = f
  rest-moved D E n g (some m) x w e f h = g x w e f (omega arith)

  rest-long : (D : Codec (List M)) → ((l : List M) (w : List Loose) (e : List ℕ) → D.kind.Form l w e → length l < length e)
      → (o : Option M) (x : Rest O o) (w : List Loose) (e : List ℕ) → (rest O D o).kind.Form x w e → length (join O o x) ≤ length e
  rest-long D g none x w e f = omega arith
  rest-long D g (some m) x w e f = omega (arith, g x w e f)

  rest-higher : (D E : Codec (List M)) (s : List ℕ) (p : ℕ) (r : Refusal) → (D.kind.Fault s p r → E.kind.Fault s p r)
      → (o : Option M) → (rest O D o).kind.Fault s p r → (rest O E o).kind.Fault s p r
  rest-higher D E s p r g none f = f
  rest-higher D E s p r g (some m) f = g f

  -- a form of a list is one under every bound that its elements are fewer than
  pub moved : (k j : ℕ) (l : List M) (w : List Loose) (e : List ℕ) → (fewer O k).kind.Form l w e → length l < j → (fewer O j).kind.Form l w e
  moved zero j l w e f h = absurd f
  moved (suc k) zero l w e f h = absurd (omega arith)
  moved (suc k) (suc j) l w e f h =
      let g = f.form in
      let i : join O f.of.0 f.of.1 ≡ l = cc f.sees in
      record {
        of = f.of;
        w₁ = f.w₁;
        w₂ = f.w₂;
        form =
            record {
              e₁ = g.e₁;
              e₂ = g.e₂;
              w₁ = g.w₁;
              w₂ = g.w₂;
              form₁ = g.form₁;
              form₂ =
                  rest-moved (fewer O k) (fewer O j) j (λ l w e f h. moved k j l w e f h) f.of.0 f.of.1 g.w₂ g.e₂ g.form₂
                  (omega (arith, ap length i));
              bytes = g.bytes;
              loose = g.loose;
            };
        sees = f.sees;
        loose = f.loose;
      }

  -- and has more bytes than elements
  pub long : (k : ℕ) (l : List M) (w : List Loose) (e : List ℕ) → (fewer O k).kind.Form l w e → length l < length e
  long zero l w e f = absurd f
  long (suc k) l w e f =
      let g = f.form in
      let i : join O f.of.0 f.of.1 ≡ l = cc f.sees in
      omega (
        arith,
        ap length i,
        some_bytes f.of.0 g.w₁ g.e₁ g.form₁,
        rest-long (fewer O k) (λ l w e f. long k l w e f) f.of.0 f.of.1 g.w₂ g.e₂ g.form₂,
        ap length g.bytes ∙ length-append g.e₁ g.e₂,
      )

  -- a fault under a bound that the bytes do not reach is one under every higher bound
  pub higher : (k j : ℕ) (s : List ℕ) (p : ℕ) (r : Refusal) → length s - p < k → k ≤ j → (fewer O k).kind.Fault s p r → (fewer O j).kind.Fault s p r
  higher zero j s p r h i f = absurd (omega arith)
  higher (suc k) zero s p r h i f = absurd (omega arith)
  higher (suc k) (suc j) s p r h i (inl (inl f)) = inl (inl f)
  higher (suc k) (suc j) s p r h i (inl (inr f)) =
      let n : ℕ = p + length f.used in
      let l : length s - n < k =
      omega (arith, some_bytes f.message f.loose f.used f.form, room f.used f.left s p f.stands) in
      inl
      (inr
      (record {
        message = f.message;
        loose = f.loose;
        used = f.used;
        left = f.left;
        form = f.form;
        stands = f.stands;
        fault = rest-higher (fewer O k) (fewer O j) s n r (higher k j s n r l (omega arith)) f.message f.fault;
      }))
  higher (suc k) (suc j) s p r h i (inr f) = let z : ◌≡◌ {A = ℕ} 0 1 = cc f.sees in absurd (omega arith)

  -- so the kind of all lists is lawful
  module _ (s : List ℕ) (p : ℕ) where
    pub sound : (x : Answer (List M)) → Sound (fewer O (suc (length s))).kind s p x → Sound (linked_kind O) s p x
    sound (took l n b) f =
        record {
          loose = f.loose;
          used = f.used;
          left = f.left;
          stands = f.stands;
          next = f.next;
          form = moved (suc (length s)) (suc (length l)) l f.loose f.used f.form (omega arith);
          plain = f.plain;
        }
    sound (refused r) f = f

    pub complete : (l : List M) (w : List Loose) (e t : List ℕ) → (linked_kind O).Form l w e → Stands e t s p
        → (linked_kind O).read s p ≡ took l (p + length e) (clean w)
    complete l w e t f h =
        let i : length l < suc (length s) = omega (arith, long (suc (length l)) l w e f, room e t s p h) in
        (fewer O (suc (length s))).laws.complete l w e t s p (moved (suc (length l)) (suc (length s)) l w e f i) h

    pub few : (t : List ℕ) (r : Refusal) → p ≤ length s → (linked_kind O).Fault s p r → TooFew (length t) r
        → (linked_kind O).Fault (s ++ t) p (less_by (length t) r)
    few t r h f g =
        let n : ℕ = suc (length (s ++ t)) in
        (fewer O n).laws.few s t p r h (higher (suc (length s)) n s p r (omega arith) (omega (arith, length-append s t)) f) g

    pub enough : (t : List ℕ) (q w : ℕ) → p ≤ length s → Bytes (s ++ t) → (linked_kind O).Fault s p (Ended q w) → length t ≡ w
        → Came s t q ((linked_kind O).read (s ++ t) p)
    enough t q w h b f e =
        let n : ℕ = suc (length (s ++ t)) in
        (fewer O n).laws.enough s t p q w h b (higher (suc (length s)) n s p (Ended q w) (omega arith) (omega (arith, length-append s t)) f) e

  pub alike : (l l' : List M) (w w' : List Loose) (e : List ℕ) → (linked_kind O).Form l w e → (linked_kind O).Form l' w' e → w ≡ w'
  alike l l' w w' e f f' =
      let n : ℕ = suc (length l + length l') in
      (fewer O n).laws.alike l l' w w' e (moved (suc (length l)) n l w e f (omega arith)) (moved (suc (length l')) n l' w' e f' (omega arith))

  pub linked-lawful : Lawful (linked_kind O)
  linked-lawful =
      record {
        sound = λ s p h. sound s p ((fewer O (suc (length s))).kind.read s p) ((fewer O (suc (length s))).laws.sound s p h);
        complete = λ l w e t s p f h. complete s p l w e t f h;
        refuses = λ s p r f. (fewer O (suc (length s))).laws.refuses s p r f;
        numbered = λ s p r f. (fewer O (suc (length s))).laws.numbered s p r f;
        alike = alike;
        good = λ l w e f. (fewer O (suc (length l))).laws.good l w e f;
        written = λ l g. (fewer O (suc (length l))).laws.written l g;
        plain = λ l e f. (fewer O (suc (length l))).laws.plain l e f;
        ended = λ s p q w h f. (fewer O (suc (length s))).laws.ended s p q w h f;
        few = λ s t p r h f g. few s p t r h f g;
        enough = λ s t p q w h b f e. enough s p t q w h b f e;
      }

  -- forms, element by element: that of the empty list is one of its end; that of another is one of its first element and, behind it, of the rest
  pub record Link (m : M) (l : List M) (w : List Loose) (e : List ℕ) : Type 0 where
    pub e₁ : List ℕ
    pub e₂ : List ℕ
    pub w₁ : List Loose
    pub w₂ : List Loose
    pub element : O.kind.Form (some m) w₁ e₁
    pub rest : (linked_kind O).Form l w₂ e₂
    pub bytes : e ≡ e₁ ++ e₂
    pub loose : w ≡ w₁ ++ shifted (length e₁) w₂

  nothing-loose : {A : Type 0} {x y : A} {v : List Way} → means x [] ≡ means y v → here v ≡ []
  nothing-loose {v = v} e = let h : v ≡ [] = cc e in ap here h

  pub empty-form : (w : List Loose) (e : List ℕ) → (linked_kind O).Form [] w e ↔ O.kind.Form none w e
  empty-form w e = (from, to)
    where
      by : (o : Option M) (x : Rest O o) → join O o x ≡ [] → (w₁ w₂ : List Loose) (e₁ e₂ : List ℕ) → O.kind.Form o w₁ e₁ → (rest O (fewer O 0) o).kind.Form x w₂ e₂
          → O.kind.Form none (w₁ ++ shifted (length e₁) w₂) (e₁ ++ e₂)
      by none x i w₁ w₂ e₁ e₂ f g =
          let a : w₁ ++ shifted (length e₁) w₂ ≡ w₁ = ap (λ z. w₁ ++ shifted (length e₁) z) g.0 ∙ append-nil w₁ in
          let b : e₁ ++ e₂ ≡ e₁ = ap (λ (z : List ℕ). e₁ ++ z) g.1 ∙ append-nil e₁ in
          rw (a, b) f
      by (some m) x i w₁ w₂ e₁ e₂ f g = let z : ◌≡◌ {A = ℕ} 0 1 = cc i in absurd (omega arith)

      from : (linked_kind O).Form [] w e → O.kind.Form none w e
      from f =
          let g = f.form in
          let k : join O f.of.0 f.of.1 ≡ [] = cc f.sees in
          let a : w ≡ g.w₁ ++ shifted (length g.e₁) g.w₂ = f.loose ∙ ap (λ z. z ++ f.w₁) (nothing-loose f.sees) ∙ g.loose in
          rw (a, g.bytes) (by f.of.0 f.of.1 k g.w₁ g.w₂ g.e₁ g.e₂ g.form₁ g.form₂)

      to : O.kind.Form none w e → (linked_kind O).Form [] w e
      to f =
          record {
            of = (none, tt);
            w₁ = w;
            w₂ = [];
            form =
                record { e₁ = e; e₂ = []; w₁ = w; w₂ = []; form₁ = f; form₂ = (refl, refl); bytes = sym (append-nil e); loose = sym (append-nil w) };
            sees = refl;
            loose = refl;
          }

  pub link-form : (m : M) (l : List M) (w : List Loose) (e : List ℕ) → (linked_kind O).Form (m ∷ l) w e ↔ Link m l w e
  link-form m l w e = (from, to)
    where
      by : (o : Option M) (x : Rest O o) → join O o x ≡ m ∷ l → (w₁ w₂ : List Loose) (e₁ e₂ : List ℕ) → w ≡ w₁ ++ shifted (length e₁) w₂ → e ≡ e₁ ++ e₂
          → O.kind.Form o w₁ e₁ → (rest O (fewer O (suc (length l))) o).kind.Form x w₂ e₂ → Link m l w e
      by none x i w₁ w₂ e₁ e₂ a b f g = let z : ◌≡◌ {A = ℕ} 0 1 = cc i in absurd (omega arith)
      by (some n) x i w₁ w₂ e₁ e₂ a b f g =
          let j : n ≡ m = cc i in
          let k : x ≡ l = cc i in
          record { e₁ = e₁; e₂ = e₂; w₁ = w₁; w₂ = w₂; element = rw j at f; rest = rw k at g; bytes = b; loose = a }

      from : (linked_kind O).Form (m ∷ l) w e → Link m l w e
      from f =
          let g = f.form in
          let k : join O f.of.0 f.of.1 ≡ m ∷ l = cc f.sees in
          let a : w ≡ g.w₁ ++ shifted (length g.e₁) g.w₂ = f.loose ∙ ap (λ z. z ++ f.w₁) (nothing-loose f.sees) ∙ g.loose in
          by f.of.0 f.of.1 k g.w₁ g.w₂ g.e₁ g.e₂ a g.bytes g.form₁ g.form₂

      to : Link m l w e → (linked_kind O).Form (m ∷ l) w e
      to f =
          record {
            of = (some m, l);
            w₁ = w;
            w₂ = [];
            form =
                record {
                  e₁ = f.e₁;
                  e₂ = f.e₂;
                  w₁ = f.w₁;
                  w₂ = f.w₂;
                  form₁ = f.element;
                  form₂ = f.rest;
                  bytes = f.bytes;
                  loose = f.loose;
                };
            sees = refl;
            loose = refl;
          }

  -- how a list is read: an optional element, and behind one that is there the rest
  abbrev pub put : M → Bool → Answer (List M) → Answer (List M)
  put m b (took l n b') = took (m ∷ l) n (b && b')
  put m b (refused r) = refused r

  abbrev pub follow : (ℕ → Answer (List M)) → Answer (Option M) → Answer (List M)
  follow more (took none n b) = took [] n b
  follow more (took (some m) n b) = put m b (more n)
  follow more (refused r) = refused r

  module _ (s : List ℕ) (h : Bytes s) where
    -- a bound that the bytes do not reach is not seen
    same_taken : (k j p : ℕ) → length s - p < k → k ≤ j → (x : Answer (List M)) → Sound (fewer O k).kind s p x → (fewer O j).kind.read s p ≡ x
    same_taken k j p i l (took v n b) f =
        let m = moved k j v f.loose f.used f.form (omega (arith, long k v f.loose f.used f.form, room f.used f.left s p f.stands)) in
        (fewer O j).laws.complete v f.loose f.used f.left s p m f.stands ∙ ap₂ (λ (n : ℕ) b. took v n b) (sym f.next) (sym f.plain)
    same_taken k j p i l (refused r) f = (fewer O j).laws.refuses s p r (higher k j s p r i l f)

    same-bound : (k j p : ℕ) → length s - p < k → k ≤ j → (fewer O j).kind.read s p ≡ (fewer O k).kind.read s p
    same-bound k j p i l = same_taken k j p i l ((fewer O k).kind.read s p) ((fewer O k).laws.sound s p h)

    by-rest : (m : M) (n : ℕ) (b : Bool) (p : ℕ) → O.kind.read s p ≡ took (some m) n b → (x : Answer (List M)) → (fewer O (length s)).kind.read s n ≡ x
        → (linked_kind O).read s p ≡ put m b x
    by-rest m n b p e (took l n' b') g = rw (e, g)
    by-rest m n b p e (refused r) g = rw (e, g)

    by-element : (p : ℕ) (x : Answer (Option M)) → O.kind.read s p ≡ x → Sound O.kind s p x
        → (linked_kind O).read s p ≡ follow ((linked_kind O).read s) x
    by-element p (took none n b) e f = rw e (ap (took [] n) (and-true b))
    by-element p (took (some m) n b) e f =
        let i : length s - n < length s =
        omega (arith, f.next, some_bytes (some m) f.loose f.used f.form, room f.used f.left s p f.stands) in
        by-rest m n b p e ((linked_kind O).read s n) (sym (same-bound (length s) (suc (length s)) n i (omega arith)))
    by-element p (refused r) e f = rw e

    pub linked-step : (p : ℕ) → (linked_kind O).read s p ≡ follow ((linked_kind O).read s) (O.kind.read s p)
    linked-step p = by-element p (O.kind.read s p) refl (O.laws.sound s p h)

-- an optional value takes four bytes at least
module _ {M S : Type 0} (F : Format M S) (o : Option M) (w : List Loose) (e : List ℕ) (f : (optional F).codec.kind.Form o w e) where
  pub optional-four : 4 ≤ length e
  optional-four =
      let g = f.form in
      omega (arith, flag-lengths.of f.of.0 g.w₁ g.e₁ g.form₁, ap length g.bytes ∙ length-append g.e₁ g.e₂)

  pub optional-some : 0 < length e
  optional-some = omega (arith, optional-four)

-- a list that is held as a place and a count, whatever its mark: what is read there is what it means, and lies inside
module _ {M : Type 0} (C : Codec (List M)) (s : List ℕ) (p : ℕ) (c : Bool) where
  agree : (x : Answer (List M)) → C.kind.read s p ≡ x → x ≡ map_answer (λ y. elements_of (C.kind.read s y.at)) (map_answer (placed_at p c) x)
  agree (took l n b) e = ap (λ z. took (elements_of z) n b) (sym e)
  agree (refused r) e = refl

  pub placed-agrees : C.kind.read s p ≡ map_answer (λ y. elements_of (C.kind.read s y.at)) (map_answer (placed_at p c) (C.kind.read s p))
  placed-agrees = agree (C.kind.read s p) refl

  keep : (x : Answer (List M)) → C.kind.read s p ≡ x
      → Taken (λ y. has_count y.count (C.kind.read s y.at) ≡ true) (map_answer (placed_at p c) x)
  keep (took l n b) e = ap (has_count (length l)) e ∙ eq-eqb (length l) (length l) refl
  keep (refused r) e = tt

  pub placed-kept : Taken (λ y. has_count y.count (C.kind.read s y.at) ≡ true) (map_answer (placed_at p c) (C.kind.read s p))
  placed-kept = keep (C.kind.read s p) refl
