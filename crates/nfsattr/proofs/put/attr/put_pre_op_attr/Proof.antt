use borrow.Author.Rules.{rules}
use Rattle.xdr.specs.Laws.Lays.{lays}
use Rattle.nfsattr.specs.Laws.Sizes.{wcc-attr-fixed}
use Rattle.xdr.specs.Laws.Optional.{some_size, none-bytes, some_bytes}
use Rattle.nfsattr.specs.Laws.Bytes.{pre-optional}
use Rattle.nfsattr.proofs.put.attr.put_pre_op_attr.Statement.{statement}
use Rattle.nfsattr.proofs.put.attr.put_pre_op_attr.Tie as tie

pub put_pre_op_attr_spec : {M : Type 1} → statement M
put_pre_op_attr_spec =
    tie.close
    (tie.spec
    (search rules) (search rules) (search rules) (search rules) (λ c. search (lays, some_size pre-optional wcc-attr-fixed)) (search rules)
    (search rules) (search rules) (search rules) (search rules) (search rules) (search rules) (search rules) (search rules)
    (λ c. search (lays, none-bytes pre-optional)) (search rules)
    (λ c. search (lays, some_bytes pre-optional, some_size pre-optional wcc-attr-fixed)))
