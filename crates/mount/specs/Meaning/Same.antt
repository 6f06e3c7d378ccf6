-- Comparing two export lists, each held in its own source: as messages, whatever bytes they are read from.
-- Assumes nothing.
use Rattle.std.specs.Prelude.{◌≡◌, Bool, true, false, cond, ◌&&◌, List, ℕ, leb, eqb, length, Result, Ok, Err}
use Rattle.std.proofs.Math.Option.{Option, none, some}
use Rattle.xdr.specs.Meaning.Answer.{most}
use Rattle.xdr.specs.Meaning.Bytes.{Bytes}
use Rattle.xdr.specs.Meaning.Format.{Format}
use Rattle.xdr.specs.Meaning.Within.{is_within}
use Rattle.xdr.specs.declared.piece.Piece.{Piece}
use Rattle.xdr.specs.declared.refusal.Refusal.{Refusal}
use Rattle.xdr.specs.declared.refusal.Refusal.TheVariants.{TooLong, Outside, LongPath}
use Rattle.mount.specs.Meaning.Export.{nodes, long_list}
use Rattle.mount.specs.declared.same.Standing.{Standing}
use Rattle.mount.specs.declared.same.Standing.TheVariants as standing

module _ (s : List ℕ) (x : Piece) where
  -- the list reads with its count at its place, and its paths are within the bound
  abbrev pub is_held : Bool
  is_held = nodes.held.inside s x

  abbrev pub is_short : Bool
  is_short = is_within (long_list (nodes.held.mean s x))

module _ (s : List ℕ) (x : Piece) (t : List ℕ) (y : Piece) where
  -- why two lists are not compared: 3, 4, 10
  unfoldable pub objection : Option Refusal
  objection =
      cond (leb (length s) most && leb (length t) most)
      (cond (is_held s x && is_held t y) (cond (is_short s x && is_short t y) none (some (LongPath 0))) (some Outside))
      (some TooLong)

  -- they mean the same message
  abbrev pub Equal : Type 0
  Equal = nodes.held.mean s x ≡ nodes.held.mean t y

  abbrev pub Says : Result Bool Refusal → Type 0
  Says (Err r) = objection ≡ some r
  Says (Ok true) = (objection ≡ none) × Equal
  Says (Ok false) = (objection ≡ none) × ¬ Equal

  -- the answer of a comparison; and the sources are bytes
  pub record Compares (r : Result Bool Refusal) : Type 0 where
    pub says : Says r
    pub left : Bytes s
    pub right : Bytes t

-- of the steps: what is held in either source means the same message, or does not
abbrev pub Tells : Type 0 → Bool → Type 0
Tells P true = P
Tells P false = ¬ P

pub record Alike {M S : Type 0} (F : Format M S) (s : List ℕ) (x : S) (t : List ℕ) (y : S) (r : Bool) : Type 0 where
  pub tells : Tells (F.held.mean s x ≡ F.held.mean t y) r

-- how one list stands, and two
abbrev pub standing_by : Bool → Bool → Standing
standing_by inside short = cond inside (cond short standing.Within standing.Long) standing.Outside

abbrev pub standing_of : List ℕ → Piece → Standing
standing_of s x = standing_by (is_held s x) (is_short s x)

-- what was found of a list, if its count is the one that was read
abbrev pub with_count : ℕ → ℕ → Standing → Standing
with_count c n found = cond (eqb c n) found standing.Outside

abbrev pub worse : Standing → Standing → Standing
worse standing.Outside v = standing.Outside
worse standing.Long standing.Outside = standing.Outside
worse standing.Long standing.Long = standing.Long
worse standing.Long standing.Within = standing.Long
worse standing.Within v = v
