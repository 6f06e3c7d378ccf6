-- Bytes in hex: two digits a byte, the high one first, and `-` for none.
-- Assumes nothing.
use Rattle.std.specs.Prelude.{◌≡◌, List, [], ◌∷◌, Bool, true, false, cond, ◌⊎◌, ℕ, ◌+◌, ◌-◌, ◌*◌, ◌≤◌, ◌<◌, leb, ltb, length, take, drop, get_or, None, Some}
use Rattle.std.specs.declared.option.Option.{Option}

-- the ASCII character of a digit below 16: `0` to `9`, then `a` to `f`; `?` for any other number
abbrev pub glyph_of : ℕ → ℕ
glyph_of d = cond (ltb d 10) (d + 48) (cond (ltb d 16) (d + 87) 63)

-- what a digit stands for, in either case; 16 for any other character
unfoldable pub digit_of : ℕ → ℕ
digit_of c =
    cond (ltb c 48) 16
    (cond (leb c 57) (c - 48)
    (cond (ltb c 65) 16
    (cond (leb c 70) (c - 65 + 10)
    (cond (ltb c 97) 16
    (cond (leb c 102) (c - 97 + 10) 16)))))

pub data Spells : List ℕ → List ℕ → Type 0 where
  none : Spells [] []
  byte : {h l : ℕ} {word bytes : List ℕ} → digit_of h < 16 → digit_of l < 16 → Spells word bytes → Spells (h ∷ l ∷ word) ((digit_of h * 16 + digit_of l) ∷ bytes)

-- a word that stands for bytes: `-` for none of them, and else their digits
abbrev pub Hex : List ℕ → List ℕ → Type 0
Hex word bytes = ((word ≡ 45 ∷ []) × (bytes ≡ [])) ⊎ ((0 < length word) × Spells word bytes)

-- the bytes that a word spells are at the front of the buffer that was `out`, n of them, and every other byte is as it was
pub record Unhexed (word out : List ℕ) (n : ℕ) (after : List ℕ) : Type 0 where
  pub long : length after ≡ length out
  pub within : n ≤ length after
  pub rest : drop n after ≡ drop n out
  pub spelled : Hex word (take n after)

-- the contract of `unhex`: what it says of a word, and what it leaves in the buffer `out`. A refusal changes nothing, and no bytes are
-- missed that fit the buffer
abbrev pub Unhexes : List ℕ → List ℕ → Option ℕ → List ℕ → Type 0
Unhexes word out (Some n) after = Unhexed word out n after
Unhexes word out None after = (after ≡ out) × ((bytes : List ℕ) → length bytes ≤ length out → Hex word bytes → ⊥)

-- what `are_digits` says
pub record Digits (word : List ℕ) (r : Bool) : Type 0 where
  pub all : r ≡ true → (k : ℕ) → k < length word → digit_of (get_or word k 0) < 16
  pub not : r ≡ false → (bytes : List ℕ) → Spells word bytes → ⊥

-- what `put` asks of a word: digits, two for each of n bytes
pub record Pairs (word : List ℕ) (n : ℕ) : Type 0 where
  pub two : n * 2 ≡ length word
  pub digits : (k : ℕ) → k < length word → digit_of (get_or word k 0) < 16
