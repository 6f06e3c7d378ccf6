use borrow.Author.Rules.{rules}
use Rattle.xdr.specs.Laws.Lays.{lays}
use Rattle.nfsattr.specs.Laws.Sizes.{fattr-fixed}
use Rattle.xdr.specs.Laws.Optional.{none-size, some_size}
use Rattle.nfsattr.specs.Laws.Bytes.{post-optional}
use Rattle.nfsattr.proofs.put.attr.post_op_attr_size.Statement.{statement}
use Rattle.nfsattr.proofs.put.attr.post_op_attr_size.Tie as tie

pub post_op_attr_size_spec : {M : Type 1} → statement M
post_op_attr_size_spec =
    tie.close
    (tie.spec
    (search rules) (search rules) (search rules) (λ c. search (lays, none-size post-optional))
    (λ c. search (lays, some_size post-optional fattr-fixed)))
