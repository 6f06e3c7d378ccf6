use borrow.Author.Rules.{rules}
use Rattle.nfsattr.proofs.inner.attr.fattr3_at.Statement.{statement}
use Rattle.nfsattr.proofs.inner.attr.fattr3_at.Tie as tie

pub fattr3_at_spec : {M : Type 1} → statement M
fattr3_at_spec = tie.close (tie.spec (search rules) (λ c. search rules) (search rules) (search rules) (λ c. search rules) (search rules) (λ c. search rules))
