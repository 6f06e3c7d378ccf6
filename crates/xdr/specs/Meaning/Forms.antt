-- The forms of the items, drawn as in RFC 4506 with docs/SCOPE.md's tolerances. Laws.Forms and Laws.Faults show that the kinds of `Items` have these forms, and are cut short so.
-- Assumes nothing.
use Rattle.std.specs.Prelude.{◌≡◌, ◌⊎◌, Bool, not, cond, List, [], ◌∷◌, ◌++◌, ℕ, ◌+◌, ◌-◌, ◌^◌, ◌≤◌, ◌<◌, eqb, leb, length}
use Rattle.xdr.specs.Meaning.Bytes.{Bytes, digits, number_at, padding, zeros}
use Rattle.xdr.specs.Meaning.Refusal.{Cut}
use Rattle.xdr.specs.Meaning.Answer.{Loose, odd_flag, dirty_pad, here}
use Rattle.xdr.specs.declared.refusal.Refusal.{Refusal}

-- a number of k bytes has one form, and nothing in it is loose
pub record NumberForm (k n : ℕ) (w : List Loose) (e : List ℕ) : Type 0 where
  pub loose : w ≡ []
  pub range : n < 256 ^ k
  pub bytes : e ≡ digits k n

-- a flag is a word: true if it is not 0, and loose if it is above 1
pub record FlagForm (b : Bool) (w : List Loose) (e : List ℕ) : Type 0 where
  pub number : ℕ
  pub range : number < 256 ^ 4
  pub bytes : e ≡ digits 4 number
  pub value : b ≡ not (eqb number 0)
  pub loose : w ≡ cond (leb number 1) [] (here (odd_flag ∷ []))

-- opaque bytes are their number, they themselves and padding to a multiple of four, which is loose if it is not all zero
pub record OpaqueForm (l : List ℕ) (w : List Loose) (e : List ℕ) : Type 0 where
  pub pad : List ℕ
  pub range : length l < 256 ^ 4
  pub all : Bytes l
  pub pad_size : length pad ≡ padding (length l)
  pub pad_bytes : Bytes pad
  pub bytes : e ≡ digits 4 (length l) ++ (l ++ pad)
  pub loose : w ≡ cond (zeros pad) [] (record { offset = 4 + length l; way = dirty_pad } ∷ [])

-- a word list is the number of its words and they themselves, and nothing in it is loose
abbrev pub all_digits : List ℕ → List ℕ
all_digits [] = []
all_digits (x ∷ l) = digits 4 x ++ all_digits l

abbrev pub AllWords : List ℕ → Type 0
AllWords [] = Unit {0}
AllWords (x ∷ l) = (x < 256 ^ 4) × AllWords l

pub record WordsForm (l : List ℕ) (w : List Loose) (e : List ℕ) : Type 0 where
  pub loose : w ≡ []
  pub range : length l < 256 ^ 4
  pub all : AllWords l
  pub bytes : e ≡ digits 4 (length l) ++ all_digits l

-- Where the items are cut short: the whole item is not there, and the refusal has the place of its first byte. Of k bytes that stand together,
-- a number or fixed bytes, the rest is wanting (`Cut k` of Meaning.Refusal).

-- Of a length word, and as many bytes as `body` says of it: while the length word is not there, its rest; then the rest of all.
abbrev pub CountedCut : (ℕ → ℕ) → List ℕ → ℕ → Refusal → Type 0
CountedCut body s p r = Cut 4 s p r ⊎ ((4 ≤ length s - p) × Cut (4 + body (number_at 4 s p)) s p r)
