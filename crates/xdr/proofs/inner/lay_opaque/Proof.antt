use borrow.Author.Rules.{rules}
use Rattle.xdr.specs.Laws.Lay.{opaque-laid}
use Rattle.xdr.proofs.inner.lay_opaque.Statement.{statement}
use Rattle.xdr.proofs.inner.lay_opaque.Tie as tie

pub lay_opaque_spec : {M : Type 1} → statement M
lay_opaque_spec =
    tie.close
    (tie.spec
    (search rules) (search rules) (search rules) (search rules) (search rules) (search rules) (search rules) (search rules)
    (search rules) (search rules) (search rules) (search rules) (search rules) (search rules) (search rules) (search rules)
    (λ c. search opaque-laid))
