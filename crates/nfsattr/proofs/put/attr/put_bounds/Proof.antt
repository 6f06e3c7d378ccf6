use borrow.Author.Rules.{rules}
use Rattle.xdr.specs.Laws.Lays.{lays}
use Rattle.nfsattr.specs.Laws.Words.{bounds-size, transfers-size}
use Rattle.nfsattr.proofs.put.attr.put_bounds.Statement.{statement}
use Rattle.nfsattr.proofs.put.attr.put_bounds.Tie as tie

pub put_bounds_spec : {M : Type 1} → statement M
put_bounds_spec =
    tie.close
    (tie.spec
    (λ c. search (lays, bounds-size)) (search rules) (search rules) (search rules) (search rules) (search rules) (search rules) (search rules)
    (search rules) (search rules) (λ c. search (lays, bounds-size, transfers-size)))
