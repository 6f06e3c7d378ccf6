-- Marks: whether the padding behind each piece of a value was all zero, and what they tell of the bytes that were read.
-- Assumes nothing.
use Rattle.std.specs.Prelude.{◌≡◌, ◌↔◌, Bool, true, false, ◌&&◌, List, [], ◌∷◌, ℕ}
use Rattle.xdr.specs.Meaning.Bytes.{Bytes, Stands}
use Rattle.xdr.specs.Meaning.Answer.{Way, odd_flag, dirty_pad, stray_tag, Loose, Taken}
use Rattle.xdr.specs.Meaning.Kind.{Codec}
use Rattle.xdr.specs.Meaning.Held.{Held}
use Rattle.xdr.specs.Meaning.Format.{Format}
use Rattle.xdr.specs.Meaning.Public.{Took, message, used_by}

-- every mark is clean
abbrev pub all_clean : List Bool → Bool
all_clean [] = true
all_clean (b ∷ l) = b && all_clean l

-- no dirty padding among what is loose
abbrev pub no_pad : Way → Bool
no_pad odd_flag = true
no_pad dirty_pad = false
no_pad stray_tag = true

abbrev pub pads_clean : List Loose → Bool
pads_clean [] = true
pads_clean (x ∷ w) = no_pad x.way && pads_clean w

-- nothing else: no odd flag, and no stray tag
abbrev pub OnlyPads : List Loose → Type 0
OnlyPads [] = Unit {0}
OnlyPads (x ∷ w) = (x.way ≡ dirty_pad) × OnlyPads w

-- where a form stands, the marks in what is read of it are all clean exactly if no padding in it is dirty
pub record Marked {M S : Type 0} {C : Codec M} (H : Held C S) : Type 0 where
  pub tells : (m : M) (w : List Loose) (e t s : List ℕ) (p : ℕ) → Bytes s → C.kind.Form m w e → Stands e t s p
      → Taken (λ x. all_clean (H.marks s x) ≡ pads_clean w) (H.read s p)

module _ {M S : Type 0} (F : Format M S) where
  -- the marks of x are l, whatever the source
  pub record MarksAre (x : S) (l : List Bool) : Type 0 where
    pub are : (s : List ℕ) → l ≡ F.held.marks s x

  -- the marks in what a public reader took
  abbrev pub marks_of : Took F → List Bool
  marks_of t = F.held.marks t.source t.value

  -- what they tell of the bytes used, which are a form with the list w of what is loose
  pub record MarksTell : Type 0 where
    pub pads : (t : Took F) (w : List Loose) → F.codec.kind.Form (message F t) w (used_by F t) → all_clean (marks_of t) ≡ pads_clean w
    -- without odd flags and stray tags, the reading is plain exactly if every mark is clean
    pub plain_iff : (t : Took F) (w : List Loose) → F.codec.kind.Form (message F t) w (used_by F t) → OnlyPads w
        → (t.plain ≡ true) ↔ (all_clean (marks_of t) ≡ true)
    -- and a plain reading has no dirty mark
    pub plain_clean : (t : Took F) → t.plain ≡ true → all_clean (marks_of t) ≡ true
