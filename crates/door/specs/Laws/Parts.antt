-- The parts of a sattr3 and of a fattr3 as bytes, laid straight from figures: the private functions of the writers promise these.
-- Assumes nothing.
use Rattle.std.specs.Prelude.{◌≡◌, Bool, true, ◌&&◌, List, ◌++◌, ℕ, ◌+◌, ◌≤◌, ◌<◌, ltb, length, drop, get_or}
use Rattle.std.proofs.Math.Option.{some}
use Rattle.xdr.specs.Meaning.Items.{word, hyper, word_pair, hyper_pair, option}
use Rattle.nfsattr.specs.Meaning.Attr.{ftype_number}
use Rattle.nfsattr.specs.declared.attr.ftype3.{ftype3}
use Rattle.nfs.specs.Meaning.Set.{set_time, sattr}
use Rattle.door.specs.Meaning.Copy.{Is}
use Rattle.door.specs.Meaning.Given.{low, is_word, fattr3_by, fattr3_given, option_of, time_of, sattr3_by}

-- bytes bs at the front of o, r of them and at most k
pub record Laid (k : ℕ) (bs o : List ℕ) (r : ℕ) (o' : List ℕ) : Type 0 where
  pub left : o' ≡ bs ++ drop r o
  pub long : length bs ≡ r
  pub most : r ≤ k

-- every number that may be a word is one, and every tag is declared, whatever the flags are
abbrev pub sattr3_narrow : List ℕ → Bool
sattr3_narrow l =
    is_word (get_or l 1 0) && is_word (get_or l 3 0) && is_word (get_or l 5 0) && is_word (get_or l 9 0) && is_word (get_or l 10 0) && is_word (get_or l 12 0)
    && is_word (get_or l 13 0) && ltb (get_or l 8 0) 3 && ltb (get_or l 11 0) 3

-- both tags are declared
pub record Tagged (l : List ℕ) : Type 0 where
  pub atime : get_or l 8 0 < 3
  pub mtime : get_or l 11 0 < 3

-- a number behind a flag, and a time behind a tag
unfoldable pub word_bytes : ℕ → ℕ → List ℕ
word_bytes flag v = (option word).kind.write (option_of flag (low v))

unfoldable pub hyper_bytes : ℕ → ℕ → List ℕ
hyper_bytes flag v = (option hyper).kind.write (option_of flag v)

unfoldable pub time_bytes : ℕ → ℕ → ℕ → List ℕ
time_bytes tag s n = set_time.kind.write (time_of tag (low s) (low n))

-- a sattr3 in two halves
unfoldable pub owner_of : List ℕ → List ℕ
owner_of l =
    (word_bytes (get_or l 0 0) (get_or l 1 0) ++ word_bytes (get_or l 2 0) (get_or l 3 0)) ++ word_bytes (get_or l 4 0) (get_or l 5 0)

unfoldable pub change_of : List ℕ → List ℕ
change_of l =
    (hyper_bytes (get_or l 6 0) (get_or l 7 0) ++ time_bytes (get_or l 8 0) (get_or l 9 0) (get_or l 10 0))
    ++ time_bytes (get_or l 11 0) (get_or l 12 0) (get_or l 13 0)

unfoldable pub sattr_of : List ℕ → List ℕ
sattr_of l = sattr.kind.write (sattr3_by low l)

-- no figures are laid straight but narrow ones, and only where there is room for the longest
pub record SattrQuick (l : List ℕ) (len at : ℕ) (b : Bool) : Type 0 where
  pub narrow : b ≡ true → sattr3_narrow l ≡ true
  pub room : b ≡ true → at + 60 ≤ len

-- a fattr3 in three parts, its type as the number that it has
unfoldable pub ids_of : List ℕ → List ℕ
ids_of l =
    (word.kind.write (low (get_or l 0 0)) ++ word_pair.kind.write (low (get_or l 1 0), low (get_or l 2 0)))
    ++ word_pair.kind.write (low (get_or l 3 0), low (get_or l 4 0))

unfoldable pub sizes_of : List ℕ → List ℕ
sizes_of l =
    (hyper_pair.kind.write (get_or l 5 0, get_or l 6 0) ++ word_pair.kind.write (low (get_or l 7 0), low (get_or l 8 0)))
    ++ hyper_pair.kind.write (get_or l 9 0, get_or l 10 0)

unfoldable pub times_of : List ℕ → List ℕ
times_of l =
    (word_pair.kind.write (low (get_or l 11 0), low (get_or l 12 0)) ++ word_pair.kind.write (low (get_or l 13 0), low (get_or l 14 0)))
    ++ word_pair.kind.write (low (get_or l 15 0), low (get_or l 16 0))

unfoldable pub fattr_of : List ℕ → List ℕ
fattr_of l = (ids_of l ++ sizes_of l) ++ times_of l

-- figures that are a fattr3, and the number of its type
pub record FattrIs (l : List ℕ) : Type 0 where
  pub kind : ftype3
  pub number : low (get_or l 0 0) ≡ ftype_number kind
  pub given : Is fattr3_given l (some (fattr3_by low l kind))

-- no others are laid straight, and only where there is room
pub record FattrQuick (l : List ℕ) (len at : ℕ) (b : Bool) : Type 0 where
  pub figures : b ≡ true → FattrIs l
  pub room : b ≡ true → at + 84 ≤ len
