use Rattle.std.proofs.Common.{ℕ, ◌+◌, ◌-◌, ◌∙◌, ap, refl, get_or, arith, below_more}
use Rattle.std.proofs.lemmas.Bool.Decides.{nat_tests}
use Rattle.text.specs.Decimal.{decimal_of}
use Rattle.text.specs.DecimalLaws.{further_le, turn, whole}
use Rattle.text.proofs.numeral.decimal.Goals as goal

pub loop-c-init : goal.loop-c-init
unfolding decimal_of
loop-c-init c = record { within = omega arith; digits = λ k l. absurd (omega arith); fits = omega arith; value = refl }

pub returns-in_err-checked_mul : goal.returns-in_err-checked_mul
returns-in_err-checked_mul c = rw c.from_residual.ensures (λ m b d. c.in_err-checked_mul.ensures (omega (arith, d.value, further_le c.args.word.now c.loop-c.c-index (omega arith))))

pub returns-in_err-n : goal.returns-in_err-n
returns-in_err-n c = rw c.from_residual-in_err-n.ensures (λ m b d. c.in_err-n.ensures (omega (arith, d.value, further_le c.args.word.now c.loop-c.c-index (omega arith))))

pub loop-c-preserved : goal.loop-c-preserved
loop-c-preserved c = record {
  within = omega arith;
  digits = below_more _ _ c.loop-c.invariant.digits c.if-not-is_ascii_digit.ensures.cases;
  fits = omega (arith, c.in_ok-n.ensures);
  value = c.in_ok-n.ensures.1 ∙ ap (λ (m : ℕ). m + (get_or c.args.word.now c.loop-c.c-index 0 - 48)) c.in_ok-checked_mul.ensures.1 ∙ turn c.args.word.now c.loop-c.c-index c.loop-c.n _ (omega arith) c.loop-c.invariant.value refl;
}

pub returns : goal.returns
returns c = (c.loop-c.invariant.fits, record { some = let e = c.if-is_empty.ensures in grind (arith, nat_tests); digits = λ k l. c.loop-c.invariant.digits k (omega arith); value = whole c.args.word.now c.loop-c.c-index c.loop-c.n (omega arith) c.loop-c.invariant.value })
