-- Numbers in decimal.
-- Assumes nothing.
use Rattle.std.specs.Prelude.{◌≡◌, ℕ, ◌+◌, ◌-◌, ◌*◌, ◌^◌, ◌≤◌, ◌<◌, length, get_or, None, Some}
use mathlib.Core.List.{List, foldl}
use Rattle.std.specs.declared.option.Option.{Option}

-- a digit more, by its character
abbrev pub further : ℕ → ℕ → ℕ
further n c = n * 10 + (c - 48)

-- the number that digits stand for, by their characters, the first digit first
unfoldable pub decimal_of : List ℕ → ℕ
decimal_of word = foldl further 0 word

-- a word that stands for a number: digits, one at least. Zeros may stand in front
pub record Decimal (word : List ℕ) (n : ℕ) : Type 0 where
  pub some : 0 < length word
  pub digits : (k : ℕ) → k < length word → (48 ≤ get_or word k 0) × (get_or word k 0 ≤ 57)
  pub value : decimal_of word ≡ n

-- the contract of `decimal`: the number that the word stands for, or that it stands for none of 64 bits
abbrev pub Reads : List ℕ → Option ℕ → Type 0
Reads word (Some n) = (n < 2 ^ 64) × Decimal word n
Reads word None = (n : ℕ) → n < 2 ^ 64 → Decimal word n → ⊥
