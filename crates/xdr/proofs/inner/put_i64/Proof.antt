use borrow.Author.Rules.{rules}
use Rattle.xdr.specs.Laws.Lays.{lay-one}
use Rattle.xdr.specs.Laws.Lay.{long-stored}
use Rattle.xdr.proofs.inner.put_i64.Statement.{statement}
use Rattle.xdr.proofs.inner.put_i64.Tie as tie

pub put_i64_spec : {M : Type 1} → statement M
put_i64_spec =
    tie.close
    (tie.spec
    (search rules) (search rules) (search rules) (λ c. search (lay-one, long-stored)))
