use borrow.Author.Rules.{rules}
use Rattle.xdr.specs.Laws.ByNumber.{body-off, body-on}
use Rattle.xdr.proofs.inner.body_at.Statement.{statement}
use Rattle.xdr.proofs.inner.body_at.Tie as tie

pub body_at_spec : {M : Type 1} → statement M
body_at_spec =
    tie.close
    (tie.spec
    (search rules) (search rules) (search rules) (search rules) (search rules) (search rules) (λ c. search body-off) (search rules) (search rules) (search rules)
    (search rules) (search rules) (λ c. let a = c.before.before.before.args in
    body-on a.src.now a.at a.n (search rules) c.pad_zeros-clean.result (search rules) (search rules) c.pad_zeros-clean.ensures))
