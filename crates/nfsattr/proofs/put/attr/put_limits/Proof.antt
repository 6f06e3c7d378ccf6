use borrow.Author.Rules.{rules}
use Rattle.xdr.specs.Laws.Lays.{lays, size_is, word-hyper-size}
use Rattle.nfsattr.specs.Laws.Sizes.{limits_fixed}
use Rattle.nfsattr.specs.Laws.Bytes.{limits-bytes}
use Rattle.nfsattr.proofs.put.attr.put_limits.Statement.{statement}
use Rattle.nfsattr.proofs.put.attr.put_limits.Tie as tie

pub put_limits_spec : {M : Type 1} → statement M
put_limits_spec =
    tie.close
    (tie.spec
    (λ c. search (lays, size_is limits_fixed)) (search rules) (search rules) (search rules) (search rules) (search rules) (search rules)
    (search rules) (search rules) (search rules) (λ c. search (lays, limits-bytes, size_is limits_fixed, word-hyper-size)))
