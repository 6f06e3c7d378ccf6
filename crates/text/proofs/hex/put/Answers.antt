use Rattle.std.proofs.Common.{◌*◌, ◌+◌, ◌∙◌, refl, arith}
use Rattle.std.proofs.Math.Seq.{drop-set-lt}
use Rattle.text.specs.Hex.{none}
use Rattle.text.specs.HexLaws.{spells_turn}
use Rattle.text.proofs.hex.put.Goals as goal

pub loop-i-init : goal.loop-i-init
loop-i-init c = record { rest = refl; spelled = none }

pub loop-i-preserved : goal.loop-i-preserved
loop-i-preserved c = record {
  rest = drop-set-lt c.args.n c.loop-i.out c.loop-i.i _ (omega arith) ∙ c.loop-i.invariant.rest;
  spelled = rw c.byte.ensures (spells_turn c.args.word.now c.loop-i.out c.loop-i.i _ _ (omega arith) (omega arith) c.loop-i.invariant.spelled refl refl (c.requires.pairs.digits (c.loop-i.i * 2) (omega arith)) (c.requires.pairs.digits (c.loop-i.i * 2 + 1) (omega arith)));
}
