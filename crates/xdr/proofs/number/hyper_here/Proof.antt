use borrow.Author.Rules.{rules}
use Rattle.xdr.specs.Laws.Swap.{hyper-at}
use Rattle.xdr.proofs.number.hyper_here.Statement.{statement}
use Rattle.xdr.proofs.number.hyper_here.Tie as tie

pub hyper_here_spec : {M : Type 1} → statement M
hyper_here_spec =
    tie.close
    (tie.spec
    (search rules) (search rules) (search rules) (search rules) (search rules) (search rules) (search rules) (λ c. search hyper-at))
