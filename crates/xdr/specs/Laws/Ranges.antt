-- What a value of the code's own types can be is in range.
-- Assumes nothing.
use Rattle.std.specs.Prelude.{◌≡◌, Bool, true, false, ℕ, ◌<◌, ℤ, pos, negsuc}
use Rattle.std.proofs.Common.{sym, ap, arith, SFits}
use Rattle.std.specs.Int.{w32, w64}
use Rattle.xdr.specs.Meaning.Bytes.{digits}
use Rattle.xdr.specs.Meaning.Items.{number, word, hyper, flag, int, long, eight}
use Rattle.xdr.specs.Laws.Digits.{digits-bytes, length_digits, value-digits}

pub word_good : (v : ℕ) → v < 4294967296 → word.kind.Good v
unfolding word number
word_good v h = h

pub hyper-good : (v : ℕ) → v < 18446744073709551616 → hyper.kind.Good v
unfolding hyper number
hyper-good v h = h

pub flag-good : (v : Bool) → flag.kind.Good v
unfolding flag word number
flag-good true = omega arith
flag-good false = omega arith

pub int-good : (v : ℤ) → SFits w32 v → int.kind.Good v
unfolding int number
int-good (pos n) h = h.sfits
int-good (negsuc n) h = h.sfits

pub long-good : (v : ℤ) → SFits w64 v → long.kind.Good v
unfolding long number
long-good (pos n) h = h.sfits
long-good (negsuc n) h = h.sfits

-- eight bytes, by the number that they write
pub eight-good : (n : ℕ) → n < 18446744073709551616 → eight.kind.Good (digits 8 n)
unfolding eight
eight-good n h = record { size = length_digits 8 n; bytes = digits-bytes 8 n h }

pub eight-bytes : (n : ℕ) → n < 18446744073709551616 → hyper.kind.write n ≡ eight.kind.write (digits 8 n)
unfolding eight hyper number
eight-bytes n h = ap (digits 8) (sym (value-digits 8 n h))
