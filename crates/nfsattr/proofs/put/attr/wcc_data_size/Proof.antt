use borrow.Author.Rules.{rules}
use Rattle.xdr.specs.Laws.Lays.{lays, sums}
use Rattle.nfsattr.specs.Laws.Bytes.{wcc-data-size, pre-op-attr-small, post-op-attr-small}
use Rattle.nfsattr.proofs.put.attr.wcc_data_size.Statement.{statement}
use Rattle.nfsattr.proofs.put.attr.wcc_data_size.Tie as tie

pub wcc_data_size_spec : {M : Type 1} → statement M
wcc_data_size_spec =
    tie.close
    (tie.spec
    (search rules) (search rules) (λ c. search (sums, pre-op-attr-small, post-op-attr-small)) (λ c. search (lays, wcc-data-size)))
