use borrow.Author.Rules.{rules}
use native.Mathlib.Omega.{arith}
use Rattle.xdr.specs.Laws.Answers.{first_ends, second-ends}
use Rattle.xdr.proofs.inner.pair_end.Statement.{statement}
use Rattle.xdr.proofs.inner.pair_end.Tie as tie

pub pair_end_spec : {M : Type 1} → statement M
pair_end_spec =
    tie.close
    (tie.spec
    (search rules) (λ c. first_ends _ _ _ (omega arith) c.cut_short.ensures) (search rules) (search rules)
    (λ c. first_ends _ _ _ (omega arith) c.cut_short-then-src-width-2.ensures) (search rules) (search rules)
    (λ c. second-ends _ _ _ (omega arith) c.cut_short-2.ensures))
