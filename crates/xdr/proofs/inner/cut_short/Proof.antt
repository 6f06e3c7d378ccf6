use borrow.Author.Rules.{rules}
use native.Mathlib.Omega.{arith}
use Rattle.xdr.specs.Laws.Answers.{cut-past}
use Rattle.xdr.proofs.inner.cut_short.Statement.{statement}
use Rattle.xdr.proofs.inner.cut_short.Tie as tie

pub cut_short_spec : {M : Type 1} → statement M
cut_short_spec = tie.close (tie.spec (λ c. cut-past _ _ _ (omega arith)) (search rules) (search rules))
