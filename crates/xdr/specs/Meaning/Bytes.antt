-- Bytes, the places where they stand, and the numbers that they write (RFC 4506, sections 3 and 4).
-- Assumes nothing.
use Rattle.std.specs.Prelude.{◌≡◌, Bool, true, cond, ◌&&◌, List, [], ◌∷◌, ◌++◌, ℕ, zero, suc, ◌+◌, ◌-◌, ◌*◌, ◌/◌, ◌%◌, ◌^◌, ◌<◌, eqb, ltb, ℤ, pos, negsuc, length, get_or, take, drop}

-- each element is a byte
abbrev pub Bytes : List ℕ → Type 0
Bytes [] = Unit {0}
Bytes (x ∷ l) = (x < 256) × Bytes l

-- the bytes e stand at place p of s, with t behind them
abbrev pub Stands : List ℕ → List ℕ → List ℕ → ℕ → Type 0
Stands e t s p = drop p s ≡ e ++ t

-- the bytes of s from place p up to place n
abbrev pub part : List ℕ → ℕ → ℕ → List ℕ
part s p n = take (n - p) (drop p s)

-- the number that bytes write, the most significant first
abbrev pub value : List ℕ → ℕ
value [] = 0
value (x ∷ l) = x * 256 ^ length l + value l

-- the k bytes that write a number
abbrev pub digits : ℕ → ℕ → List ℕ
digits zero n = []
digits (suc k) n = n / 256 ^ k ∷ digits k (n % 256 ^ k)

-- the number that the k bytes from place p on write
abbrev pub number_at : ℕ → List ℕ → ℕ → ℕ
number_at zero s p = 0
number_at (suc k) s p = get_or s p 0 * 256 ^ k + number_at k s (p + 1)

-- two's complement: of 2 h numbers, those below h are not negative
abbrev pub signed : ℕ → ℕ → ℤ
signed h n = cond (ltb n h) (pos n) (negsuc (h + h - suc n))

abbrev pub unsigned : ℕ → ℤ → ℕ
unsigned h (pos n) = n
unsigned h (negsuc n) = h + h - suc n

abbrev pub InHalf : ℕ → ℤ → Type 0
InHalf h (pos n) = n < h
InHalf h (negsuc n) = n < h

-- how many bytes stand between n bytes and a multiple of four
abbrev pub padding : ℕ → ℕ
padding n = (4 - n % 4) % 4

-- whether bytes are all zero
abbrev pub zeros : List ℕ → Bool
zeros [] = true
zeros (x ∷ l) = eqb x 0 && zeros l
