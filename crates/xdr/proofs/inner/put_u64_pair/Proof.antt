use borrow.Author.Rules.{rules}
use Rattle.xdr.specs.Laws.Fixed.{hyper-fixed, hyper-pair-fixed}
use Rattle.xdr.specs.Laws.Padding.{hyper-pair-bytes}
use Rattle.xdr.specs.Laws.Lays.{lay-short, lay-two, size_is}
use Rattle.xdr.proofs.inner.put_u64_pair.Statement.{statement}
use Rattle.xdr.proofs.inner.put_u64_pair.Tie as tie

pub put_u64_pair_spec : {M : Type 1} → statement M
put_u64_pair_spec =
    tie.close
    (tie.spec
    (λ c. search (lay-short, size_is hyper-pair-fixed)) (search rules) (search rules) (search rules) (search rules) (search rules)
    (search rules) (search rules) (search rules) (search rules)
    (λ c. search (lay-two, hyper-pair-bytes, size_is hyper-fixed, size_is hyper-pair-fixed)))
