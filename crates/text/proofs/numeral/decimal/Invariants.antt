use Rattle.std.proofs.Common.{◌≡◌, ℕ, ◌≤◌, ◌<◌, length, get_or, take}
use Rattle.text.specs.Decimal.{decimal_of}
use Rattle.text.proofs.numeral.decimal.Given as goal

-- the characters that were passed are digits, and stand for n
abbrev pub invariant-loop-c : goal.invariant-loop-c
invariant-loop-c l = record {
  within : l.c-index ≤ length l.word;
  digits : (k : ℕ) → k < l.c-index → (48 ≤ get_or l.word k 0) × (get_or l.word k 0 ≤ 57);
  fits : l.n < 18446744073709551616;
  value : l.n ≡ decimal_of (take l.c-index l.word);
}
