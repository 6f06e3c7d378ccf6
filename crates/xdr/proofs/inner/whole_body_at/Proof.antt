use borrow.Author.Rules.{rules}
use Rattle.xdr.specs.Laws.ByNumber.{whole-off, whole-on}
use Rattle.xdr.proofs.inner.whole_body_at.Statement.{statement}
use Rattle.xdr.proofs.inner.whole_body_at.Tie as tie

pub whole_body_at_spec : {M : Type 1} → statement M
whole_body_at_spec = tie.close (tie.spec (search rules) (λ c. search rules) (search rules) (search rules) (search rules) (search rules) (λ c. search whole-off) (search rules) (search rules) (search rules) (λ c. search whole-on))
