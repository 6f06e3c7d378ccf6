use borrow.Author.Rules.{rules}
use Rattle.xdr.specs.Laws.Answers.{eight_is}
use Rattle.xdr.proofs.inner.eight_at.Statement.{statement}
use Rattle.xdr.proofs.inner.eight_at.Tie as tie

pub eight_at_spec : {M : Type 1} → statement M
eight_at_spec = tie.close (tie.spec (search rules) (λ c. search eight_is))
