use borrow.Author.Rules.{rules}
use Rattle.xdr.specs.Laws.Fixed.{hyper-pair-fixed}
use Rattle.xdr.specs.Laws.Lays.{lays, size_is, size-behind}
use Rattle.nfsattr.specs.Laws.Sizes.{sizes-fixed, specdata-fixed}
use Rattle.nfsattr.specs.Laws.Bytes.{sizes-bytes}
use Rattle.nfsattr.proofs.put.attr.put_sizes.Statement.{statement}
use Rattle.nfsattr.proofs.put.attr.put_sizes.Tie as tie

pub put_sizes_spec : {M : Type 1} → statement M
put_sizes_spec =
    tie.close
    (tie.spec
    (λ c. search (lays, size_is sizes-fixed)) (search rules) (search rules) (search rules) (search rules) (search rules) (search rules)
    (search rules) (search rules) (search rules) (search rules) (search rules) (search rules) (search rules)
    (λ c. search (lays, sizes-bytes, size_is sizes-fixed, size_is hyper-pair-fixed, size-behind specdata-fixed)))
