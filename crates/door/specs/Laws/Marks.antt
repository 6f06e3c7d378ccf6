-- What the proofs of the functions that tell marks cite.
-- Assumes nothing.
use Rattle.std.specs.Prelude.{◌≡◌, refl, Bool, true, false, cond, List, [], ◌∷◌, ℕ, ◌≤◌, ◌<◌, eqb, length}
use Rattle.std.proofs.Common.{sym, ap, ap₂, ◌∙◌, arith, eq-eqb, ne_eqb}
use Rattle.std.proofs.lemmas.List.Edits.{sets}
use Rattle.xdr.specs.Meaning.Refusal.{number_of}
use Rattle.xdr.specs.Meaning.Views.{view_marks}
use Rattle.xdr.specs.declared.piece.Marks.{Marks}
use Rattle.xdr.specs.declared.piece.Marks.TheVariants as marks
use Rattle.xdr.specs.declared.refusal.Refusal.{Refusal}
use Rattle.door.specs.declared.copy.Marking.{Marking}
use Rattle.door.specs.declared.copy.Copied.{Copied}
use Rattle.door.specs.Meaning.Copy.{Copy, unmade, made, view_marking, view_copied}
use Rattle.door.specs.Meaning.Kinds.{kinds, CopiesOf}
use Rattle.door.specs.Meaning.Figures.{Shown, Says}
use Rattle.door.specs.Meaning.Exports.{size_code, judged_code}
use Rattle.door.specs.Meaning.Marks.{mark_figures, unmade_figures, marks_figures, MarksCalled}

-- marks by what they were tested to be
pub one-mark : (a t : Bool) → a ≡ t → t ∷ [] ≡ a ∷ []
one-mark a t e = ap (λ (z : Bool). z ∷ []) (sym e)

pub two-mark : (a b t u : Bool) → a ≡ t → b ≡ u → t ∷ u ∷ [] ≡ a ∷ b ∷ []
two-mark a b t u e f = ap₂ (λ (y z : Bool). y ∷ z ∷ []) (sym e) (sym f)

-- the figures of a reading, by the case that its marks are; u is the figure of `plain`
module _ (m : Marking) (x : Marks) (t : view_marks x ≡ view_marking m) (n : ℕ) (p : Bool) (u : ℕ) (i i' : List ℕ) (e : u ≡ cond p 1 0) where
  pub marks-none : x ≡ marks.None → Shown (n ∷ u ∷ 0 ∷ 0 ∷ 0 ∷ []) i i' → Shown (n ∷ cond p 1 0 ∷ mark_figures (view_marking m)) i i'
  marks-none f s = rw (← t, f) (record { list = s.list ∙ ap (λ (z : ℕ). sets i 0 (n ∷ z ∷ 0 ∷ 0 ∷ 0 ∷ [])) e })

  pub marks-one : (a : Bool) (v : ℕ) → x ≡ marks.One a → v ≡ cond a 1 0 → Shown (n ∷ u ∷ 1 ∷ v ∷ 0 ∷ []) i i'
      → Shown (n ∷ cond p 1 0 ∷ mark_figures (view_marking m)) i i'
  marks-one a v f g s = rw (← t, f) (record { list = s.list ∙ ap₂ (λ (z y : ℕ). sets i 0 (n ∷ z ∷ 1 ∷ y ∷ 0 ∷ [])) e g })

  pub marks-two : (a b : Bool) (v w : ℕ) → x ≡ marks.Two a b → v ≡ cond a 1 0 → w ≡ cond b 1 0 → Shown (n ∷ u ∷ 2 ∷ v ∷ w ∷ []) i i'
      → Shown (n ∷ cond p 1 0 ∷ mark_figures (view_marking m)) i i'
  marks-two a b v w f g h s =
      rw (← t, f)
      (record {
        list = s.list ∙ ap₂ (λ (z y : ℕ). sets i 0 (n ∷ z ∷ 2 ∷ y ∷ w ∷ [])) e g ∙ ap (λ (z : ℕ). sets i 0 (n ∷ cond p 1 0 ∷ 2 ∷ cond a 1 0 ∷ z ∷ [])) h;
      })

module _ (n k : ℕ) (b : Bool) (m : List Bool) (r : Refusal) (i i' : List ℕ) where
  pub unmade-other : k ≡ number_of r → (k ≡ 5 → ⊥) → Shown (0 ∷ 0 ∷ 0 ∷ 0 ∷ 0 ∷ []) i i' → Says size_code (unmade_figures n b m) r i k i'
  unmade-other e f s =
      let g : eqb (number_of r) 5 ≡ false = ne_eqb (number_of r) 5 (λ h. f (e ∙ h)) in
      record { number = e ∙ sym (rw g); shown = record { list = s.list ∙ sym (rw g) } }

  pub unmade-told : k ≡ number_of r → k ≡ 5 → Shown (n ∷ cond b 1 0 ∷ mark_figures m) i i' → Says size_code (unmade_figures n b m) r i 0 i'
  unmade-told e f s =
      let g : eqb (number_of r) 5 ≡ true = eq-eqb (number_of r) 5 (sym e ∙ f) in
      record { number = sym (rw g); shown = record { list = s.list ∙ sym (rw g) } }

-- what is told of the parts of a copy, as what is said of the copy
module _ (x t : Copied) (n : ℕ) (b : Bool) (m : List Bool) (i i' : List ℕ) (e : x ≡ t) where
  pub says-unmade : (r : Refusal) (k : ℕ) → Says size_code (unmade_figures n b m) r i k i' → view_copied t ≡ unmade r n b m
      → Says judged_code marks_figures (view_copied x) i k i'
  says-unmade r k s h =
      let g = ap view_copied e ∙ h in
      record { number = s.number ∙ sym (ap judged_code g); shown = record { list = s.shown.list ∙ sym (ap (λ z. sets i 0 (marks_figures z)) g) } }

  pub says-made : (k : ℕ) → Shown (n ∷ cond b 1 0 ∷ mark_figures m) i i' → view_copied t ≡ made n b m k → Says judged_code marks_figures (view_copied x) i 0 i'
  says-made k s h =
      let g = ap view_copied e ∙ h in
      record { number = sym (ap judged_code g); shown = record { list = s.list ∙ sym (ap (λ z. sets i 0 (marks_figures z)) g) } }

module _ (kind at : ℕ) (s i : List ℕ) where
  pub marks-short : length i < 5 → MarksCalled kind s at i 254 i
  marks-short h = record { room = λ g. absurd (omega arith); short = λ g. (refl, refl) }

  pub marks-told : (c : Copy) (r : ℕ) (o' i' : List ℕ) → 5 ≤ length i → Says judged_code marks_figures c i r i' → CopiesOf kinds kind s at 0 [] c o'
      → MarksCalled kind s at i r i'
  marks-told c r o' i' h t d =
      record {
        room = λ g. record { copy = c; left = o'; copies = d; number = t.number; list = t.shown.list };
        short = λ g. absurd (omega arith);
      }
