use borrow.Author.Rules.{rules}
use native.Mathlib.Omega.{arith}
use mathlib.Core.Path.{ap, ◌∙◌}
use Rattle.xdr.specs.Meaning.Answer.{refused}
use Rattle.xdr.specs.Laws.Answers.{hyper-short, hyper-took}
use Rattle.xdr.proofs.inner.u64_at.Statement.{statement}
use Rattle.xdr.proofs.inner.u64_at.Tie as tie

pub u64_at_spec : {M : Type 1} → statement M
u64_at_spec =
    tie.close
    (tie.spec
    (search rules) (λ c. ap refused c.cut_short.ensures ∙ hyper-short _ _ (omega arith)) (search rules) (search rules)
    (λ c. ap refused c.cut_short-then-src-at.ensures ∙ hyper-short _ _ (omega arith)) (search rules) (search rules) (λ c. hyper-took _ _ (omega arith) (search rules)))
