use borrow.Author.Rules.{rules}
use Rattle.xdr.specs.Laws.Fixed.{word-fixed}
use Rattle.xdr.specs.Laws.Lays.{lays, size_is, word-hyper-size}
use Rattle.xdr.proofs.inner.put_u32_u64.Statement.{statement}
use Rattle.xdr.proofs.inner.put_u32_u64.Tie as tie

pub put_u32_u64_spec : {M : Type 1} → statement M
put_u32_u64_spec =
    tie.close
    (tie.spec
    (λ c. search (lays, word-hyper-size)) (search rules) (search rules) (search rules) (search rules) (search rules) (search rules) (search rules)
    (search rules) (search rules) (λ c. search (lays, word-hyper-size, size_is word-fixed)))
