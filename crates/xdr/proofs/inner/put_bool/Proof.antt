use borrow.Author.Rules.{rules}
use Rattle.xdr.specs.Laws.Lays.{lay-one}
use Rattle.xdr.specs.Laws.Lay.{true-bytes, false-bytes}
use Rattle.xdr.proofs.inner.put_bool.Statement.{statement}
use Rattle.xdr.proofs.inner.put_bool.Tie as tie

pub put_bool_spec : {M : Type 1} → statement M
put_bool_spec =
    tie.close
    (tie.spec
    (search rules) (search rules) (search rules) (λ c. search (lay-one, true-bytes)) (search rules)
    (λ c. search (lay-one, false-bytes)))
