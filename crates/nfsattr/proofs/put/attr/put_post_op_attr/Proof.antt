use borrow.Author.Rules.{rules}
use Rattle.xdr.specs.Laws.Lays.{lays}
use Rattle.nfsattr.specs.Laws.Sizes.{fattr-fixed}
use Rattle.xdr.specs.Laws.Optional.{some_size, none-bytes, some_bytes}
use Rattle.nfsattr.specs.Laws.Bytes.{post-optional}
use Rattle.nfsattr.proofs.put.attr.put_post_op_attr.Statement.{statement}
use Rattle.nfsattr.proofs.put.attr.put_post_op_attr.Tie as tie

pub put_post_op_attr_spec : {M : Type 1} → statement M
put_post_op_attr_spec =
    tie.close
    (tie.spec
    (search rules) (search rules) (search rules) (search rules) (λ c. search (lays, some_size post-optional fattr-fixed)) (search rules)
    (search rules) (search rules) (search rules) (search rules) (search rules) (search rules) (search rules) (search rules)
    (λ c. search (lays, none-bytes post-optional)) (search rules)
    (λ c. search (lays, some_bytes post-optional, some_size post-optional fattr-fixed)))
