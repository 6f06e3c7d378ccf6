use borrow.Author.Rules.{rules}
use Rattle.xdr.specs.Laws.Lays.{lays, size_is, size-behind}
use Rattle.nfsattr.specs.Laws.Sizes.{fattr-fixed, ids-fixed, sizes-fixed}
use Rattle.nfsattr.specs.Laws.Bytes.{fattr-bytes}
use Rattle.nfsattr.proofs.put.attr.put_fattr3.Statement.{statement}
use Rattle.nfsattr.proofs.put.attr.put_fattr3.Tie as tie

pub put_fattr3_spec : {M : Type 1} → statement M
put_fattr3_spec =
    tie.close
    (tie.spec
    (λ c. search (lays, size_is fattr-fixed)) (search rules) (search rules) (search rules) (search rules) (search rules) (search rules)
    (search rules) (search rules) (search rules) (search rules) (search rules) (search rules) (search rules)
    (λ c. search (lays, fattr-bytes, size_is fattr-fixed, size_is ids-fixed, size-behind sizes-fixed)))
