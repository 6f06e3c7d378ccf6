use borrow.Author.Rules.{rules}
use Rattle.xdr.specs.Laws.Lays.{lays, sums}
use Rattle.nfsattr.specs.Laws.Bytes.{wcc-data-size, wcc-data-bytes, pre-op-attr-small, post-op-attr-small}
use Rattle.nfsattr.proofs.put.attr.put_wcc_data.Statement.{statement}
use Rattle.nfsattr.proofs.put.attr.put_wcc_data.Tie as tie

pub put_wcc_data_spec : {M : Type 1} → statement M
put_wcc_data_spec =
    tie.close
    (tie.spec
    (search rules) (search rules) (λ c. search (sums, pre-op-attr-small, post-op-attr-small)) (λ c. search (lays, wcc-data-size)) (search rules)
    (search rules) (search rules) (search rules) (search rules) (search rules) (search rules) (search rules) (search rules)
    (λ c. search (lays, wcc-data-bytes, wcc-data-size)))
