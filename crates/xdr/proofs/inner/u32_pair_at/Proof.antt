use borrow.Author.Rules.{rules}
use native.Mathlib.Omega.{arith}
use mathlib.Core.Path.{ap, ◌∙◌}
use Rattle.xdr.specs.Meaning.Answer.{refused}
use Rattle.xdr.specs.Laws.Answers.{word-pair-short, word-pair-took}
use Rattle.xdr.proofs.inner.u32_pair_at.Statement.{statement}
use Rattle.xdr.proofs.inner.u32_pair_at.Tie as tie

pub u32_pair_at_spec : {M : Type 1} → statement M
u32_pair_at_spec =
    tie.close
    (tie.spec
    (search rules) (λ c. ap refused c.pair_end.ensures ∙ word-pair-short _ _ (omega arith)) (search rules) (search rules)
    (λ c. ap refused c.pair_end-then-src-at.ensures ∙ word-pair-short _ _ (omega arith)) (search rules) (search rules) (search rules) (search rules)
    (λ c. word-pair-took _ _ (omega arith) (search rules) (search rules)))
