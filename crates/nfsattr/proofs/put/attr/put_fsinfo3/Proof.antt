use borrow.Author.Rules.{rules}
use Rattle.xdr.specs.Laws.Lays.{lays, sums}
use Rattle.nfsattr.specs.Laws.Bytes.{fsinfo-size, fsinfo-bytes, post-op-attr-small}
use Rattle.nfsattr.proofs.put.attr.put_fsinfo3.Statement.{statement}
use Rattle.nfsattr.proofs.put.attr.put_fsinfo3.Tie as tie

pub put_fsinfo3_spec : {M : Type 1} → statement M
put_fsinfo3_spec =
    tie.close
    (tie.spec
    (search rules) (λ c. search (sums, post-op-attr-small)) (λ c. search (lays, fsinfo-size)) (search rules) (search rules) (search rules)
    (search rules) (search rules) (search rules) (search rules) (search rules) (search rules) (λ c. search (lays, fsinfo-bytes, fsinfo-size)))
