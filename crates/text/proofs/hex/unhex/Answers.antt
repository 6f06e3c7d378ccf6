use Rattle.std.proofs.Common.{◌≡◌, ◌∙◌, sym, ℕ, List, [], ◌∷◌, ◌/◌, length, Bool, false, rules, arith}
use lib.Pointwise.{pointwise}
use lib.Dec.{eqb}
use Rattle.std.proofs.lemmas.Bool.Decides.{nat_tests}
use Rattle.text.specs.HexLaws.{never, spelled, odd_spells, room_spells}
use Rattle.text.proofs.hex.unhex.Goals.{then-is_empty-via-then-is_empty, then-is_empty-via-else-is_empty+then-word-eq1, then-is_empty-via-else-is_empty+else-word-eq1+then-out-n, then-is_empty-via-else-is_empty+else-word-eq1+else-out-n+then-not-are_digits}
use Rattle.text.proofs.hex.unhex.Goals as goal

no_dash : {word dash : List ℕ} → dash ≡ 45 ∷ [] → ◌≡◌ {A = Bool} false (pointwise eqb word dash) → word ≡ 45 ∷ [] → ⊥
no_dash d e w = never (sym (e ∙ (λ i. pointwise eqb (w i) (d i))))

pub returns-then-is_empty : goal.returns-then-is_empty
returns-then-is_empty c = (
  search rules,
  λ bytes room hex.
      let s = spelled {word = c.args.word.now} (no_dash c.as_slice.ensures c.if-eq.ensures) hex in
      elim c.then-is_empty.branch [
        | then-is_empty-via-then-is_empty w ↦ let e = w.if-is_empty.ensures in let l = s.0 in grind (arith, nat_tests)
        | then-is_empty-via-else-is_empty+then-word-eq1 w ↦ odd_spells w.if-word-eq1.true s.1
        | then-is_empty-via-else-is_empty+else-word-eq1+then-out-n w ↦ room_spells (length c.args.word.now / 2) (omega arith) (omega (arith, w.if-out-n.true)) s.1
        | then-is_empty-via-else-is_empty+else-word-eq1+else-out-n+then-not-are_digits w ↦ w.are_digits.ensures.not (search rules) bytes s.1
      ],
)
