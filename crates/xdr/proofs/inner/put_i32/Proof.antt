use borrow.Author.Rules.{rules}
use Rattle.xdr.specs.Laws.Lays.{lay-one}
use Rattle.xdr.specs.Laws.Lay.{int-stored}
use Rattle.xdr.proofs.inner.put_i32.Statement.{statement}
use Rattle.xdr.proofs.inner.put_i32.Tie as tie

pub put_i32_spec : {M : Type 1} → statement M
put_i32_spec =
    tie.close
    (tie.spec
    (search rules) (search rules) (search rules) (λ c. search (lay-one, int-stored)))
