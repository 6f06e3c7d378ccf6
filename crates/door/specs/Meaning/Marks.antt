-- What `yugerzat_marks` answers: a number, and figures in a lent list.
-- Assumes nothing.
use Rattle.std.specs.Prelude.{◌≡◌, Bool, cond, List, [], ◌∷◌, ℕ, ◌≤◌, ◌<◌, length, eqb}
use Rattle.std.proofs.lemmas.List.Edits.{sets}
use Rattle.xdr.specs.Meaning.Refusal.{number_of, place_of, wanting_of}
use Rattle.xdr.specs.declared.refusal.Refusal.{Refusal}
use Rattle.door.specs.Meaning.Copy.{Copy, unknown, unread, unmade, made}
use Rattle.door.specs.Meaning.Kinds.{kinds, CopiesOf}
use Rattle.door.specs.Meaning.Exports.{judged_code}

-- how many marks there are, and the first and the second: 1 for a clean one, 0 for a dirty one or none
abbrev pub mark_figures : List Bool → List ℕ
mark_figures [] = 0 ∷ 0 ∷ 0 ∷ []
mark_figures (a ∷ []) = 1 ∷ cond a 1 0 ∷ 0 ∷ []
mark_figures (a ∷ b ∷ l) = 2 ∷ cond a 1 0 ∷ cond b 1 0 ∷ []

-- refusal 5 of the rewriting is no refusal of the reading
abbrev pub unmade_figures : ℕ → Bool → List Bool → Refusal → List ℕ
unmade_figures n b m r = cond (eqb (number_of r) 5) (n ∷ cond b 1 0 ∷ mark_figures m) (0 ∷ 0 ∷ 0 ∷ 0 ∷ 0 ∷ [])

abbrev pub marks_figures : Copy → List ℕ
marks_figures unknown = 0 ∷ 0 ∷ 0 ∷ 0 ∷ 0 ∷ []
marks_figures (unread r) = place_of r ∷ wanting_of r ∷ 0 ∷ 0 ∷ 0 ∷ []
marks_figures (unmade r n b m) = unmade_figures n b m r
marks_figures (made n b m e) = n ∷ cond b 1 0 ∷ mark_figures m

-- by the copy into an empty buffer: the number of judging, and these figures
pub record MarksTold (kind : ℕ) (s : List ℕ) (at : ℕ) (i : List ℕ) (r : ℕ) (i' : List ℕ) : Type 0 where
  pub copy : Copy
  pub left : List ℕ
  pub copies : CopiesOf kinds kind s at 0 [] copy left
  pub number : r ≡ judged_code copy
  pub list : i' ≡ sets i 0 (marks_figures copy)

-- 254 where the list has no room for five figures
pub record MarksCalled (kind : ℕ) (s : List ℕ) (at : ℕ) (i : List ℕ) (r : ℕ) (i' : List ℕ) : Type 0 where
  pub room : 5 ≤ length i → MarksTold kind s at i r i'
  pub short : length i < 5 → (r ≡ 254) × (i' ≡ i)
