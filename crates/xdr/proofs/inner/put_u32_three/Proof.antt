use borrow.Author.Rules.{rules}
use Rattle.xdr.specs.Laws.Fixed.{word-fixed}
use Rattle.xdr.specs.Laws.Lays.{lays, size_is, three-size}
use Rattle.xdr.proofs.inner.put_u32_three.Statement.{statement}
use Rattle.xdr.proofs.inner.put_u32_three.Tie as tie

pub put_u32_three_spec : {M : Type 1} → statement M
put_u32_three_spec =
    tie.close
    (tie.spec
    (λ c. search (lays, three-size)) (search rules) (search rules) (search rules) (search rules) (search rules) (search rules) (search rules)
    (search rules) (search rules) (λ c. search (lays, three-size, size_is word-fixed)))
