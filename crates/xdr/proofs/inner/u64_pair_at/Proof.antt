use borrow.Author.Rules.{rules}
use native.Mathlib.Omega.{arith}
use mathlib.Core.Path.{ap, ◌∙◌}
use Rattle.xdr.specs.Meaning.Answer.{refused}
use Rattle.xdr.specs.Laws.Answers.{hyper-pair-short, hyper-pair-took}
use Rattle.xdr.proofs.inner.u64_pair_at.Statement.{statement}
use Rattle.xdr.proofs.inner.u64_pair_at.Tie as tie

pub u64_pair_at_spec : {M : Type 1} → statement M
u64_pair_at_spec =
    tie.close
    (tie.spec
    (search rules) (λ c. ap refused c.pair_end.ensures ∙ hyper-pair-short _ _ (omega arith)) (search rules) (search rules)
    (λ c. ap refused c.pair_end-then-src-at.ensures ∙ hyper-pair-short _ _ (omega arith)) (search rules) (search rules) (search rules) (search rules)
    (λ c. hyper-pair-took _ _ (omega arith) (search rules) (search rules)))
