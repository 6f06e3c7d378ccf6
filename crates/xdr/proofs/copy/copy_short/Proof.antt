use borrow.Author.Rules.{rules}
use Rattle.xdr.proofs.copy.copy_short.Statement.{statement}
use Rattle.xdr.proofs.copy.copy_short.Tie as tie

pub copy_short_spec : {M : Type 1} → statement M
copy_short_spec =
    tie.close
    (tie.spec
    (search rules) (search rules) (λ c. search rules) (search rules) (search rules) (λ c. search rules) (search rules) (search rules)
    (λ c. search rules))
