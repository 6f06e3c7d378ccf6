use borrow.Author.Rules.{rules}
use Rattle.xdr.specs.Laws.Swap.{word-swapped}
use Rattle.xdr.proofs.number.raw_here.Statement.{statement}
use Rattle.xdr.proofs.number.raw_here.Tie as tie

pub raw_here_spec : {M : Type 1} → statement M
raw_here_spec =
    tie.close
    (tie.spec
    (search rules) (search rules) (search rules) (search rules) (search rules) (search rules) (search rules) (search rules) (search rules)
    (search rules) (search rules) (search rules) (search rules) (search rules) (search rules) (search rules) (search rules)
    (λ c. search word-swapped))
