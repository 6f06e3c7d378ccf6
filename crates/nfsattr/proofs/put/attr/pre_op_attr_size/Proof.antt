use borrow.Author.Rules.{rules}
use Rattle.xdr.specs.Laws.Lays.{lays}
use Rattle.nfsattr.specs.Laws.Sizes.{wcc-attr-fixed}
use Rattle.xdr.specs.Laws.Optional.{none-size, some_size}
use Rattle.nfsattr.specs.Laws.Bytes.{pre-optional}
use Rattle.nfsattr.proofs.put.attr.pre_op_attr_size.Statement.{statement}
use Rattle.nfsattr.proofs.put.attr.pre_op_attr_size.Tie as tie

pub pre_op_attr_size_spec : {M : Type 1} → statement M
pre_op_attr_size_spec =
    tie.close
    (tie.spec
    (search rules) (search rules) (search rules) (λ c. search (lays, none-size pre-optional))
    (λ c. search (lays, some_size pre-optional wcc-attr-fixed)))
