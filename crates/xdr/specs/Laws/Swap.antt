-- A word, and a hyper, in the other order of their bytes.
-- Assumes nothing.
use Rattle.std.specs.Prelude.{◌≡◌, List, [], ◌∷◌, ◌++◌, ℕ, ◌+◌, ◌*◌, ◌<◌, ◌/◌, ◌%◌, get_or}
use Rattle.std.proofs.Common.{ap₂, ◌∙◌, add_assoc, mul-one, add-zero, div-one, arith}
use Rattle.xdr.specs.Meaning.Bytes.{number_at}
use Rattle.xdr.specs.Meaning.Items.{number, word, hyper}
use Rattle.xdr.specs.Laws.Digits.{digits_append, number-halves}

abbrev pub swapped : ℕ → ℕ
swapped v = v % 256 * 16777216 + v / 256 % 256 * 65536 + v / 65536 % 256 * 256 + v / 16777216

-- the same of the eight bytes of a hyper
abbrev pub swapped64 : ℕ → ℕ
swapped64 v = swapped (v % 4294967296) * 4294967296 + swapped (v / 4294967296)

-- four bytes, low byte first, as a number
abbrev pub little : ℕ → ℕ → ℕ → ℕ → ℕ
little a b c d = a + b * 256 + c * 65536 + d * 16777216

-- and high byte first
abbrev pub big : ℕ → ℕ → ℕ → ℕ → ℕ
big a b c d = a * 16777216 + b * 65536 + c * 256 + d

module _ (a b c d : ℕ) (ha : a < 256) (hb : b < 256) (hc : c < 256) (hd : d < 256) where
  pub byte-0 : little a b c d % 256 ≡ a
  byte-0 = omega arith

  pub byte-1 : little a b c d / 256 % 256 ≡ b
  byte-1 = omega arith

  pub byte-2 : little a b c d / 65536 % 256 ≡ c
  byte-2 = omega arith

  pub byte-3 : little a b c d / 16777216 ≡ d
  byte-3 = omega arith

  pub swap-little : swapped (little a b c d) ≡ big a b c d
  swap-little = simp (byte-0, byte-1, byte-2, byte-3)

-- four bytes of a source, read low byte first and swapped, are the word that they write
pub word-swapped : (s : List ℕ) (p : ℕ) {a b c d : ℕ} → (a ≡ get_or s p 0) × (a < 256) → (b ≡ get_or s (p + 1) 0) × (b < 256)
    → (c ≡ get_or s (p + 2) 0) × (c < 256) → (d ≡ get_or s (p + 3) 0) × (d < 256) → swapped (little a b c d) ≡ number_at 4 s p
word-swapped s p {a} {b} {c} {d} ea eb ec ed =
    swap-little a b c d ea.1 eb.1 ec.1 ed.1 ∙ simp (ea.0, eb.0, ec.0, ed.0, add_assoc, mul-one, add-zero)

-- a hyper is the number of its two words
pub hyper-at : (s : List ℕ) (p x y a b : ℕ) → (x ≡ a) × (x < 4294967296) → (y ≡ b) × (y < 4294967296) → a ≡ number_at 4 s p → b ≡ number_at 4 s (p + 4)
    → x * 4294967296 + y ≡ number_at 8 s p
hyper-at s p x y a b e f g h = ap₂ (λ x y. x * 4294967296 + y) (e.0 ∙ g) (f.0 ∙ h) ∙ number-halves s p

-- the bytes of a word that was swapped, low byte first
pub swapped-bytes : (v : ℕ) → v < 4294967296
    → swapped v % 256 ∷ swapped v / 256 % 256 ∷ swapped v / 65536 % 256 ∷ swapped v / 16777216 ∷ [] ≡ word.kind.write v
unfolding word number
swapped-bytes v h =
    let a : v / 16777216 < 256 = omega arith in
    let b : v / 65536 % 256 < 256 = omega arith in
    let c : v / 256 % 256 < 256 = omega arith in
    let d : v % 256 < 256 = omega arith in
    let e : swapped v ≡ little (v / 16777216) (v / 65536 % 256) (v / 256 % 256) (v % 256) = omega arith in
    let e₁ : v % 16777216 / 65536 ≡ v / 65536 % 256 = omega arith in
    let e₂ : v % 16777216 % 65536 / 256 ≡ v / 256 % 256 = omega arith in
    let e₃ : v % 16777216 % 65536 % 256 ≡ v % 256 = omega arith in
    rw e
    (simp (
      byte-0 (v / 16777216) (v / 65536 % 256) (v / 256 % 256) (v % 256) a b c d,
      byte-1 (v / 16777216) (v / 65536 % 256) (v / 256 % 256) (v % 256) a b c d,
      byte-2 (v / 16777216) (v / 65536 % 256) (v / 256 % 256) (v % 256) a b c d,
      byte-3 (v / 16777216) (v / 65536 % 256) (v / 256 % 256) (v % 256) a b c d,
      e₁,
      e₂,
      e₃,
      div-one,
    ))

-- a hyper is two words
pub hyper-words : (v : ℕ) → v < 18446744073709551616 → word.kind.write (v / 4294967296) ++ word.kind.write (v % 4294967296) ≡ hyper.kind.write v
unfolding word hyper number
hyper-words v h = digits_append 4 4 v h

-- the bytes of two words side by side, low byte first
module _ (a b : ℕ) (ha : a < 4294967296) (hb : b < 4294967296) where
  half-0 : (b * 4294967296 + a) % 256 ≡ a % 256
  half-0 = omega arith

  half-1 : (b * 4294967296 + a) / 256 % 256 ≡ a / 256 % 256
  half-1 = omega arith

  half-2 : (b * 4294967296 + a) / 65536 % 256 ≡ a / 65536 % 256
  half-2 = omega arith

  half-3 : (b * 4294967296 + a) / 16777216 % 256 ≡ a / 16777216
  half-3 = omega arith

  half-4 : (b * 4294967296 + a) / 4294967296 % 256 ≡ b % 256
  half-4 = omega arith

  half-5 : (b * 4294967296 + a) / 1099511627776 % 256 ≡ b / 256 % 256
  half-5 = omega arith

  half-6 : (b * 4294967296 + a) / 281474976710656 % 256 ≡ b / 65536 % 256
  half-6 = omega arith

  half-7 : (b * 4294967296 + a) / 72057594037927936 ≡ b / 16777216
  half-7 = omega arith

  half-bytes : (b * 4294967296 + a) % 256 ∷ (b * 4294967296 + a) / 256 % 256 ∷ (b * 4294967296 + a) / 65536 % 256 ∷ (b * 4294967296 + a) / 16777216 % 256
      ∷ (b * 4294967296 + a) / 4294967296 % 256 ∷ (b * 4294967296 + a) / 1099511627776 % 256 ∷ (b * 4294967296 + a) / 281474976710656 % 256
      ∷ (b * 4294967296 + a) / 72057594037927936 ∷ []
      ≡ (a % 256 ∷ a / 256 % 256 ∷ a / 65536 % 256 ∷ a / 16777216 ∷ []) ++ (b % 256 ∷ b / 256 % 256 ∷ b / 65536 % 256 ∷ b / 16777216 ∷ [])
  half-bytes = simp (half-0, half-1, half-2, half-3, half-4, half-5, half-6, half-7)

swapped-lt : (v : ℕ) → v < 4294967296 → swapped v < 4294967296
swapped-lt v h = omega arith

-- the bytes of a hyper that was swapped, low byte first
pub swapped64-bytes : (v : ℕ) → v < 18446744073709551616
    → swapped64 v % 256 ∷ swapped64 v / 256 % 256 ∷ swapped64 v / 65536 % 256 ∷ swapped64 v / 16777216 % 256 ∷ swapped64 v / 4294967296 % 256
    ∷ swapped64 v / 1099511627776 % 256 ∷ swapped64 v / 281474976710656 % 256 ∷ swapped64 v / 72057594037927936 ∷ [] ≡ hyper.kind.write v
swapped64-bytes v h =
    let high : v / 4294967296 < 4294967296 = omega arith in
    let low : v % 4294967296 < 4294967296 = omega arith in
    half-bytes (swapped (v / 4294967296)) (swapped (v % 4294967296)) (swapped-lt (v / 4294967296) high) (swapped-lt (v % 4294967296) low)
    ∙ ap₂ (λ x y. x ++ y) (swapped-bytes (v / 4294967296) high) (swapped-bytes (v % 4294967296) low) ∙ hyper-words v h

-- what swapping the two words in turn gives
pub swap64-is : (v x y low high : ℕ) → (x ≡ low) × (x < 4294967296) → (y ≡ high) × (y < 4294967296) → low ≡ swapped (v % 4294967296)
    → high ≡ swapped (v / 4294967296) → x * 4294967296 + y ≡ swapped64 v
swap64-is v x y low high e f g h = ap₂ (λ x y. x * 4294967296 + y) (e.0 ∙ g) (f.0 ∙ h)
