-- What a flag says is there, and lists, which stand behind flags: they have no padding, or their marks tell of it.
-- Assumes nothing.
use Rattle.std.specs.Prelude.{◌≡◌, refl, Bool, true, false, ◌&&◌, List, [], ◌∷◌, ◌++◌, ℕ, ◌+◌, length}
use Rattle.std.proofs.Common.{sym, ap, ap₂, ◌∙◌, arith}
use Rattle.std.proofs.Math.Bool.{and-true}
use Rattle.std.proofs.Math.Option.{Option, none, some}
use Rattle.xdr.specs.Meaning.Bytes.{Bytes, Stands}
use Rattle.xdr.specs.Meaning.Answer.{took, map_answer, Loose, shifted, clean}
use Rattle.xdr.specs.Meaning.Kind.{Codec}
use Rattle.xdr.specs.Meaning.Items.{if, option}
use Rattle.xdr.specs.Meaning.Format.{Format, if_format, flagged, optional}
use Rattle.xdr.specs.Meaning.Cases.{Cases, case_names, maybe_held}
use Rattle.xdr.specs.Meaning.Linked.{placed_at}
use Rattle.xdr.specs.Meaning.Lists.{linked, clean_step, clean_list, list_of}
use Rattle.xdr.specs.Meaning.Marks.{all_clean, pads_clean, Marked}
use Rattle.xdr.specs.Laws.Lists.{stands-first, stands-second}
use Rattle.xdr.specs.Laws.Linked.{optional-some, empty-form, link-form}
use Rattle.xdr.specs.Laws.Walks.{clean_step_lem}
use Rattle.xdr.specs.Laws.Unpadded.{pads-append, pads-shifted, Unpadded, void-unpadded, flag-unpadded, chain-unpadded, view-unpadded}
use Rattle.xdr.specs.Laws.Marked.{stood, taken, of-taken, plain-marked, then-marked, named-marked}

-- a value that a flag says is there
module _ {M : Type 0} (C : Codec M) where
  if-unpadded : Unpadded C.kind → (b : Bool) → Unpadded (if C b).kind
  if-unpadded h true = h
  if-unpadded h false = void-unpadded

  pub option-unpadded : Unpadded C.kind → Unpadded (option C).kind
  option-unpadded h = view-unpadded (λ x. refl) (chain-unpadded flag-unpadded (if-unpadded h))

-- a value that a flag says is there
module _ {M S : Type 0} (F : Format M S) (K : Marked F.held) where
  if-marked : (b : Bool) → Marked (if_format F b).held
  if-marked true = K
  if-marked false = plain-marked void-unpadded

  pub optional-marked : Marked (optional F).held
  optional-marked = named-marked (flagged F) _ (then-marked _ _ _ (plain-marked flag-unpadded) (λ s b. if-marked b))

  pub maybe-marked : {T : Type 0} (U : Cases S T) → Marked (maybe_held F U).held
  maybe-marked U = named-marked (optional F) (case_names U) optional-marked

-- a list: its mark is that of its elements
module _ {M S : Type 0} (F : Format M S) (K : Marked F.held) where
  ends : (w : List Loose) (s : List ℕ) (p n : ℕ) (b : Bool) (o : Option S) → (optional F).held.mean s o ≡ none
      → all_clean ((optional F).held.marks s o) ≡ pads_clean w → clean_step F (clean_list F s) s (took o n b) ≡ pads_clean w
  ends w s p n b none e i = i
  ends w s p n b (some y) e i = let z : ◌≡◌ {A = ℕ} 0 1 = cc e in absurd (omega arith)

  goes : (m : M) (w₁ w₂ : List Loose) (s : List ℕ) (n : ℕ) (b : Bool) (o : Option S) → (optional F).held.mean s o ≡ some m
      → all_clean ((optional F).held.marks s o) ≡ pads_clean w₁ → clean_list F s n ≡ pads_clean w₂
      → clean_step F (clean_list F s) s (took o n b) ≡ (pads_clean w₁ && pads_clean w₂)
  goes m w₁ w₂ s n b none e i j = let z : ◌≡◌ {A = ℕ} 0 1 = cc e in absurd (omega arith)
  goes m w₁ w₂ s n b (some y) e i j = ap₂ (λ u v. u && v) i j

  elements : (l : List M) (w : List Loose) (e t s : List ℕ) (p : ℕ) → Bytes s → (linked F).kind.Form l w e → Stands e t s p
      → clean_list F s p ≡ pads_clean w
  elements [] w e t s p h f g =
      let f₁ = (empty-form (optional F).codec (optional-some F) w e).0 f in
      let d = stood (optional F).held none w e t s p f₁ g in
      let i = of-taken _ d.1 ((optional-marked F K).tells none w e t s p h f₁ g) in
      clean_step_lem F s h p
      ∙ ap (clean_step F (clean_list F s) s) d.1
      ∙ ends w s p (p + length e) (clean w) d.0 d.2 i
  elements (m ∷ l) w e t s p h f g =
      let k = (link-form (optional F).codec (optional-some F) m l w e).0 f in
      let g' : Stands (k.e₁ ++ k.e₂) t s p = rw k.bytes at g in
      let g₁ = stands-first k.e₁ k.e₂ t s p g' in
      let g₂ = stands-second k.e₁ k.e₂ t s p g' in
      let d = stood (optional F).held (some m) k.w₁ k.e₁ (k.e₂ ++ t) s p k.element g₁ in
      let i = of-taken _ d.1 ((optional-marked F K).tells (some m) k.w₁ k.e₁ (k.e₂ ++ t) s p h k.element g₁) in
      let j = elements l k.w₂ k.e₂ t s (p + length k.e₁) h k.rest g₂ in
      clean_step_lem F s h p
      ∙ ap (clean_step F (clean_list F s) s) d.1
      ∙ goes m k.w₁ k.w₂ s (p + length k.e₁) (clean k.w₁) d.0 d.2 i j
      ∙ sym
      (ap pads_clean k.loose
      ∙ pads-append k.w₁ (shifted (length k.e₁) k.w₂)
      ∙ ap (λ b. pads_clean k.w₁ && b) (pads-shifted (length k.e₁) k.w₂))

  pub list-marked : Marked (list_of F).held
  list-marked =
      record {
        tells = λ l w e t s p h f g.
            let c = clean_list F s p in
            taken _ (ap (map_answer (placed_at p c)) ((linked F).laws.complete l w e t s p f g)) (and-true c ∙ elements l w e t s p h f g);
      }
