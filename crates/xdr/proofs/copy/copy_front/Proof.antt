use borrow.Author.Rules.{rules}
use Rattle.xdr.specs.Laws.Copying.{front-runs}
use Rattle.xdr.proofs.copy.copy_front.Statement.{statement}
use Rattle.xdr.proofs.copy.copy_front.Tie as tie

pub copy_front_spec : {M : Type 1} → statement M
copy_front_spec =
    tie.close
    (tie.spec
    (search rules) (search rules) (search rules) (search rules) (search rules) (search rules) (search rules) (search rules)
    (search rules) (search rules) (search rules) (λ c. search front-runs))
