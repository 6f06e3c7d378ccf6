use borrow.Author.Rules.{rules}
use Rattle.xdr.specs.Laws.Fixed.{hyper-fixed}
use Rattle.xdr.specs.Laws.Lays.{lays, size_is}
use Rattle.nfsattr.specs.Laws.Sizes.{wcc-attr-fixed}
use Rattle.nfsattr.specs.Laws.Bytes.{wcc-attr-bytes}
use Rattle.nfsattr.proofs.put.attr.put_wcc_attr.Statement.{statement}
use Rattle.nfsattr.proofs.put.attr.put_wcc_attr.Tie as tie

pub put_wcc_attr_spec : {M : Type 1} → statement M
put_wcc_attr_spec =
    tie.close
    (tie.spec
    (λ c. search (lays, size_is wcc-attr-fixed)) (search rules) (search rules) (search rules) (search rules) (search rules) (search rules)
    (search rules) (search rules) (search rules) (λ c. search (lays, wcc-attr-bytes, size_is wcc-attr-fixed, size_is hyper-fixed)))
