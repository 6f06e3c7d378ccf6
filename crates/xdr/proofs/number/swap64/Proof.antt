use borrow.Author.Rules.{rules}
use Rattle.xdr.specs.Laws.Swap.{swap64-is}
use Rattle.xdr.proofs.number.swap64.Statement.{statement}
use Rattle.xdr.proofs.number.swap64.Tie as tie

pub swap64_spec : {M : Type 1} → statement M
swap64_spec = tie.close (tie.spec (search rules) (search rules) (search rules) (search rules) (search rules) (search rules) (search rules) (search rules) (λ c. search swap64-is))
