use borrow.Author.Rules.{rules}
use native.Mathlib.Omega.{arith}
use mathlib.Core.Path.{ap, ◌∙◌}
use Rattle.xdr.specs.Meaning.Answer.{refused}
use Rattle.xdr.specs.Laws.Answers.{word-short, word-took}
use Rattle.xdr.proofs.inner.u32_at.Statement.{statement}
use Rattle.xdr.proofs.inner.u32_at.Tie as tie

pub u32_at_spec : {M : Type 1} → statement M
u32_at_spec =
    tie.close
    (tie.spec
    (search rules) (λ c. ap refused c.cut_short.ensures ∙ word-short _ _ (omega arith)) (search rules) (search rules)
    (λ c. ap refused c.cut_short-then-src-at.ensures ∙ word-short _ _ (omega arith)) (search rules) (search rules) (λ c. word-took _ _ (omega arith) (search rules)))
