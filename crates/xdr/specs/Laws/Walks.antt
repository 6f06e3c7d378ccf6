-- Walking along a linked list: what a step finds, and what a loop that reads keeps.
-- Assumes nothing.
use Rattle.std.specs.Prelude.{◌≡◌, refl, Bool, true, false, ◌&&◌, List, [], ℕ, zero, suc, ◌+◌, ◌-◌, ◌≤◌, ◌<◌, length}
use Rattle.std.proofs.Common.{sym, ap, subst, ◌∙◌, add-zero, zero-add, arith}
use Rattle.std.proofs.Math.Bool.{and-true}
use Rattle.std.proofs.Math.Option.{Option, none, some}
use Rattle.xdr.specs.Meaning.Bytes.{Bytes}
use Rattle.xdr.specs.Meaning.Answer.{Answer, took, refused, map_answer}
use Rattle.xdr.specs.Meaning.Kind.{Found, Sound}
use Rattle.xdr.specs.Meaning.Combinators.{means}
use Rattle.xdr.specs.Meaning.Held.{look_at}
use Rattle.xdr.specs.Meaning.Format.{Format, optional}
use Rattle.xdr.specs.Meaning.Cases.{Cases, maybe_held}
use Rattle.xdr.specs.Meaning.Linked.{placed_at}
use Rattle.xdr.specs.Meaning.Marks.{all_clean}
use Rattle.xdr.specs.Meaning.Lists.{linked, clean_step, clean_to, clean_list, list_of}
use Rattle.xdr.specs.Laws.Lists.{room}
use Rattle.xdr.specs.Laws.Held.{taken-means, refused-means}
use Rattle.xdr.specs.Laws.Linked.{put, follow, linked-step, optional-four, optional-some}
use Rattle.xdr.specs.Laws.Even.{Even, optional-even}
use Rattle.xdr.specs.declared.piece.Piece.{Piece}
use Rattle.xdr.specs.declared.refusal.Refusal.{Refusal}

-- an optional value under the names of a type, and by itself
module _ {M S T : Type 0} (F : Format M S) (U : Cases S T) (s : List ℕ) (p : ℕ) where
  pub by_names : {t : T} {n : ℕ} {b : Bool} → (maybe_held F U).held.read s p ≡ took t n b → (optional F).held.read s p ≡ took (U.from t) n b
  by_names {t} {n} {b} e = go ((optional F).held.read s p) refl
    where
      go : (a : Answer (Option S)) → (optional F).held.read s p ≡ a → (optional F).held.read s p ≡ took (U.from t) n b
      go (took o n' b') f =
          let g : ◌≡◌ {A = Answer T} (took (U.to o) n' b') (took t n b) = sym (ap (look_at (λ (y : Option S). means (U.to y) []) p) f) ∙ e in
          let i : U.to o ≡ t = cc g in
          let k : o ≡ U.from t = sym (U.from_to o) ∙ ap U.from i in
          f ∙ cc (g, k)
      go (refused r) f =
          let g : ◌≡◌ {A = Answer T} (refused r) (took t n b) = sym (ap (look_at (λ (y : Option S). means (U.to y) []) p) f) ∙ e in
          let z : ◌≡◌ {A = ℕ} 0 1 = cc in absurd (omega arith)

  pub by-names-refused : {r : Refusal} → (maybe_held F U).held.read s p ≡ refused r → (optional F).held.read s p ≡ refused r
  by-names-refused {r} e = go ((optional F).held.read s p) refl
    where
      go : (a : Answer (Option S)) → (optional F).held.read s p ≡ a → (optional F).held.read s p ≡ refused r
      go (took o n' b') f =
          let g : ◌≡◌ {A = Answer T} (took (U.to o) n' b') (refused r) = sym (ap (look_at (λ (y : Option S). means (U.to y) []) p) f) ∙ e in
          let z : ◌≡◌ {A = ℕ} 0 1 = cc in absurd (omega arith)
      go (refused r') f =
          let g : ◌≡◌ {A = Answer T} (refused r') (refused r) = sym (ap (look_at (λ (y : Option S). means (U.to y) []) p) f) ∙ e in
          f ∙ cc g

module _ {M S : Type 0} (F : Format M S) (s : List ℕ) (h : Bytes s) (p : ℕ) where
  -- one step: the end, an element and the rest behind it, or a refusal
  pub list-ends : {n : ℕ} {b : Bool} → (optional F).held.read s p ≡ took none n b → (linked F).kind.read s p ≡ took [] n b
  list-ends e =
      linked-step (optional F).codec (optional-some F) s h p
      ∙ ap (follow (optional F).codec (optional-some F) ((linked F).kind.read s)) (taken-means (optional F).held s p e)

  pub list-goes : {y : S} {n : ℕ} {b : Bool} → (optional F).held.read s p ≡ took (some y) n b
      → (linked F).kind.read s p ≡ put (optional F).codec (optional-some F) (F.held.mean s y) b ((linked F).kind.read s n)
  list-goes e =
      linked-step (optional F).codec (optional-some F) s h p
      ∙ ap (follow (optional F).codec (optional-some F) ((linked F).kind.read s)) (taken-means (optional F).held s p e)

  pub list-refused : {r : Refusal} → (optional F).held.read s p ≡ refused r → (linked F).kind.read s p ≡ refused r
  list-refused e =
      linked-step (optional F).codec (optional-some F) s h p
      ∙ ap (follow (optional F).codec (optional-some F) ((linked F).kind.read s)) (refused-means (optional F).held s p e)

  -- a step takes four bytes at least, and they lie inside; all forms of an element being of one length, it takes as many as are written
  module _ {o : Option S} {n : ℕ} {b : Bool} (e : (optional F).held.read s p ≡ took o n b) where
    step-found : Found (optional F).codec.kind s p ((optional F).held.mean s o) n b
    step-found = subst (Sound (optional F).codec.kind s p) (taken-means (optional F).held s p e) ((optional F).codec.laws.sound s p h)

    pub step-inside : (p + 4 ≤ n) × (n ≤ length s)
    step-inside =
        let f = step-found in
        omega (arith, f.next, optional-four F _ f.loose f.used f.form, room f.used f.left s p f.stands)

    pub step-size : Even F.codec.kind → n ≡ p + length ((optional F).codec.kind.write ((optional F).held.mean s o))
    step-size i = let f = step-found in f.next ∙ ap (λ k. p + k) ((optional-even F i).of _ f.loose f.used f.form)

-- the mark of a list, element by element
module _ {M S : Type 0} (F : Format M S) (s : List ℕ) (h : Bytes s) where
  clean-more : (more more' : ℕ → Bool) (p : ℕ) → ((n : ℕ) → p + 4 ≤ n → n ≤ length s → more n ≡ more' n) → (a : Answer (Option S))
      → (optional F).held.read s p ≡ a → clean_step F more s a ≡ clean_step F more' s a
  clean-more more more' p g (took none n b) e = refl
  clean-more more more' p g (took (some y) n b) e =
      let i = step-inside F s h p e in
      ap (λ v. all_clean (F.held.marks s y) && v) (g n i.0 i.1)
  clean-more more more' p g (refused r) e = refl

  -- a bound that the bytes do not reach is not seen
  clean-bound : (k j p : ℕ) → length s - p < k → length s - p < j → clean_to F k s p ≡ clean_to F j s p
  clean-bound zero j p i l = absurd (omega arith)
  clean-bound (suc k) zero p i l = absurd (omega arith)
  clean-bound (suc k) (suc j) p i l =
      clean-more (clean_to F k s) (clean_to F j s) p (λ n a b. clean-bound k j n (omega arith) (omega arith)) ((optional F).held.read s p) refl

  pub clean_step_lem : (p : ℕ) → clean_list F s p ≡ clean_step F (clean_list F s) s ((optional F).held.read s p)
  clean_step_lem p =
      clean-more (clean_to F (length s) s) (clean_list F s) p (λ n a b. clean-bound (length s) (suc (length s)) n (omega arith) (omega arith))
      ((optional F).held.read s p) refl

and_assoc : (a b c : Bool) → (a && (b && c)) ≡ ((a && b) && c)
and_assoc true b c = refl
and_assoc false b c = refl

-- d is the mark of the elements before q: with those from q on, it is the mark of one more and those behind it; at the end it is that of all
module _ {M S : Type 0} (F : Format M S) (s : List ℕ) (h : Bytes s) (d : Bool) (q : ℕ) where
  pub clean-goes : {y : S} {n : ℕ} {b : Bool} → (optional F).held.read s q ≡ took (some y) n b
      → (d && clean_list F s q) ≡ ((d && all_clean (F.held.marks s y)) && clean_list F s n)
  clean-goes {y} {n} e =
      ap (λ z. d && z) (clean_step_lem F s h q ∙ ap (clean_step F (clean_list F s) s) e) ∙ and_assoc d (all_clean (F.held.marks s y)) (clean_list F s n)

  pub clean-ends : {n : ℕ} {b : Bool} → (optional F).held.read s q ≡ took none n b → (d && clean_list F s q) ≡ d
  clean-ends e = ap (λ z. d && z) (clean_step_lem F s h q ∙ ap (clean_step F (clean_list F s) s) e) ∙ and-true d

-- what a reader's loop keeps: c elements of a list that begins at p were read, b says if nothing was loose in them, and the rest is read. d is
-- the mark of them all
abbrev pub tally : {M : Type 0} → ℕ → ℕ → Bool → Bool → Answer (List M) → Answer Piece
tally p c b d (took l n b') = took (record { at = p; count = c + length l; clean = d }) n (b && b')
tally p c b d (refused r) = refused r

module _ {M S : Type 0} (F : Format M S) (s : List ℕ) where
  tally-none : (p : ℕ) (d : Bool) (z : Answer (List M)) → map_answer (placed_at p d) z ≡ tally p 0 true d z
  tally-none p d (took l n b) = rw (zero-add (length l))
  tally-none p d (refused r) = refl

  -- before the first flag
  pub tally-starts : (p : ℕ) → (list_of F).held.read s p ≡ tally p 0 true (clean_list F s p) ((linked F).kind.read s p)
  tally-starts p = tally-none p (clean_list F s p) ((linked F).kind.read s p)

  -- from q on: c elements were read before, in which b says if nothing was loose, and d is the mark of these
  abbrev pub onward : ℕ → ℕ → Bool → Bool → ℕ → Answer Piece
  onward p c b d q = tally p c b (d && clean_list F s q) ((linked F).kind.read s q)

  module _ (h : Bytes s) (p c : ℕ) (b d : Bool) (q : ℕ) where
    tally-put : (m : M) (b₁ d₁ : Bool) (z : Answer (List M))
        → tally p c b d₁ (put (optional F).codec (optional-some F) m b₁ z) ≡ tally p (c + 1) (b && b₁) d₁ z
    tally-put m b₁ d₁ (took l n b₂) =
        let e : c + suc (length l) ≡ c + 1 + length l = omega arith in
        rw (e, and_assoc b b₁ b₂)
    tally-put m b₁ d₁ (refused r) = refl

    -- one more element
    pub tally-goes : {y : S} {n : ℕ} {b₁ : Bool} → (optional F).held.read s q ≡ took (some y) n b₁
        → onward p c b d q ≡ onward p (c + 1) (b && b₁) (d && all_clean (F.held.marks s y)) n
    tally-goes {y} {n} {b₁} e =
        let m = all_clean (F.held.marks s y) in
        ap (λ z. tally p c b z ((linked F).kind.read s q)) (clean-goes F s h d q e)
        ∙ ap (tally p c b ((d && m) && clean_list F s n)) (list-goes F s h q e)
        ∙ tally-put (F.held.mean s y) b₁ ((d && m) && clean_list F s n) ((linked F).kind.read s n)

    -- the end, and a refusal
    pub tally-ends : {n : ℕ} {b₁ : Bool} → (optional F).held.read s q ≡ took none n b₁
        → onward p c b d q ≡ took (record { at = p; count = c; clean = d }) n (b && b₁)
    tally-ends {n} {b₁} e =
        ap (λ z. tally p c b z ((linked F).kind.read s q)) (clean-ends F s h d q e)
        ∙ ap (tally p c b d) (list-ends F s h q e)
        ∙ ap (λ (k : ℕ). took (record { at = p; count = k; clean = d }) n (b && b₁)) (add-zero c)

    pub tally-refused : {r : Refusal} → (optional F).held.read s q ≡ refused r → onward p c b d q ≡ refused r
    tally-refused e = ap (tally p c b (d && clean_list F s q)) (list-refused F s h q e)
