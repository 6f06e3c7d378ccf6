use borrow.Author.Rules.{rules}
use Rattle.xdr.specs.Laws.Fixed.{word-pair-fixed}
use Rattle.xdr.specs.Laws.Lays.{lays, size_is, size-behind}
use Rattle.nfsattr.specs.Laws.Sizes.{ids-fixed, ftype-fixed}
use Rattle.nfsattr.specs.Laws.Bytes.{ids-bytes}
use Rattle.nfsattr.proofs.put.attr.put_ids.Statement.{statement}
use Rattle.nfsattr.proofs.put.attr.put_ids.Tie as tie

pub put_ids_spec : {M : Type 1} → statement M
put_ids_spec =
    tie.close
    (tie.spec
    (λ c. search (lays, size_is ids-fixed)) (search rules) (search rules) (search rules) (search rules) (search rules) (search rules)
    (search rules) (search rules) (search rules) (search rules) (search rules) (search rules) (search rules)
    (λ c. search (lays, ids-bytes, size_is ids-fixed, size_is ftype-fixed, size-behind word-pair-fixed)))
