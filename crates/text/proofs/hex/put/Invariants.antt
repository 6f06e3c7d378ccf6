use Rattle.std.proofs.Common.{◌≡◌, ◌*◌, take, drop}
use Rattle.text.specs.Hex.{Spells}
use Rattle.text.proofs.hex.put.Given as goal

-- the pairs that were passed spell the bytes that are put, and the bytes from n on are as they were
abbrev pub invariant-loop-i : goal.invariant-loop-i
invariant-loop-i l = record {
  rest : drop l.n l.out ≡ drop l.n l.fn.out;
  spelled : Spells (take (l.i * 2) l.word) (take l.i l.out);
}
