use borrow.Author.Rules.{rules}
use Rattle.xdr.specs.Laws.Fixed.{word-fixed, word-pair-fixed}
use Rattle.xdr.specs.Laws.Padding.{word-pair-bytes}
use Rattle.xdr.specs.Laws.Lays.{lay-short, lay-two, size_is}
use Rattle.xdr.proofs.inner.put_u32_pair.Statement.{statement}
use Rattle.xdr.proofs.inner.put_u32_pair.Tie as tie

pub put_u32_pair_spec : {M : Type 1} → statement M
put_u32_pair_spec =
    tie.close
    (tie.spec
    (λ c. search (lay-short, size_is word-pair-fixed)) (search rules) (search rules) (search rules) (search rules) (search rules)
    (search rules) (search rules) (search rules) (search rules)
    (λ c. search (lay-two, word-pair-bytes, size_is word-fixed, size_is word-pair-fixed)))
