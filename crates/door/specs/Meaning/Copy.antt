-- What copying a message is: the public reading of a format, and the public writing of what it took.
-- Assumes nothing.
use Rattle.std.specs.Prelude.{◌≡◌, Bool, true, false, List, [], ◌∷◌, ◌++◌, ℕ, ◌≤◌, length, take, drop}
use Rattle.xdr.specs.Meaning.Answer.{Answer, took, refused, opened, Written, done, unwritten}
use Rattle.xdr.specs.Meaning.Format.{Format}
use Rattle.xdr.specs.Meaning.Order.{roomed}
use Rattle.xdr.specs.Meaning.Public.{writing, leaving}
use Rattle.xdr.specs.declared.refusal.Refusal.{Refusal}
use Rattle.door.specs.declared.copy.Marking.{Marking}
use Rattle.door.specs.declared.copy.Marking.TheVariants as marking
use Rattle.door.specs.declared.copy.Copied.{Copied}
use Rattle.door.specs.declared.copy.Copied.TheVariants.{Unknown, Unread, Unwritten, Done}

-- a format of what the code holds in S
pub record Holding (S : Type 0) : Type 1 where
  pub Message : Type 0
  pub format : Format Message S

abbrev pub held_as : {M S : Type 0} → Format M S → Holding S
held_as {M} F = record { Message = M; format = F }

-- y is what f makes of x
pub record Is {A B : Type 0} (f : A → B) (x : A) (y : B) : Type 0 where
  pub is : y ≡ f x

-- what is said: no such kind; the reading's refusal; the writing's refusal, with what the reading tells; or that, and where the writing ends.
-- A reading tells its next place, if it is plain, and its marks
pub data Copy : Type 0 where
  unknown : Copy
  unread : Refusal → Copy
  unmade : Refusal → ℕ → Bool → List Bool → Copy
  made : ℕ → Bool → List Bool → ℕ → Copy

abbrev pub view_marking : Marking → List Bool
view_marking marking.None = []
view_marking marking.Clean = true ∷ []
view_marking marking.Dirty = false ∷ []
view_marking marking.BothClean = true ∷ true ∷ []
view_marking marking.SecondDirty = true ∷ false ∷ []
view_marking marking.FirstDirty = false ∷ true ∷ []
view_marking marking.BothDirty = false ∷ false ∷ []

abbrev pub view_copied : Copied → Copy
view_copied Unknown = unknown
view_copied (Unread r) = unread r
view_copied (Unwritten r n b m) = unmade r n b (view_marking m)
view_copied (Done n b e m) = made n b (view_marking m) e

-- what is said of a reading that was taken, by what its writer says
abbrev pub said_of : ℕ → Bool → List Bool → Written → Copy
said_of n b m (done e) = made n b m e
said_of n b m (unwritten r) = unmade r n b m

module _ {M S : Type 0} (F : Format M S) (s : List ℕ) (start : ℕ) (o : List ℕ) where
  -- what is said of a reading, and what the other buffer then holds
  abbrev pub copy_said : Answer S → Copy
  copy_said (took x n b) = said_of n b (F.held.marks s x) (writing F s x start (length o))
  copy_said (refused r) = unread r

  abbrev pub copy_left : Answer S → List ℕ
  copy_left (took x n b) = leaving F s x (writing F s x start (length o)) start o
  copy_left (refused r) = o

-- the message of format F at a place of s, copied to a place of o: the answer, and the buffer o' that is left of o
pub record Copies {M S : Type 0} (F : Format M S) (s : List ℕ) (at start : ℕ) (o : List ℕ) (c : Copy) (o' : List ℕ) : Type 0 where
  pub says : c ≡ copy_said F s start o (opened s at (F.held.read s at))
  pub leaves : o' ≡ copy_left F s start o (opened s at (F.held.read s at))

-- from a place of s up to another
pub record Span (s : List ℕ) (at next : ℕ) : Type 0 where
  pub order : at ≤ next
  pub inside : next ≤ length s

-- bytes written as they stand, from a place of o on: the answer, and the buffer o' that is left of o
abbrev pub standing : List ℕ → ℕ → List ℕ → Written → List ℕ
standing bs at o (done n) = take at o ++ (bs ++ drop n o)
standing bs at o (unwritten r) = o

pub record Stands (bs : List ℕ) (at : ℕ) (o : List ℕ) (w : Written) (o' : List ℕ) : Type 0 where
  pub says : w ≡ roomed (length o) at (length bs)
  pub leaves : o' ≡ standing bs at o w
