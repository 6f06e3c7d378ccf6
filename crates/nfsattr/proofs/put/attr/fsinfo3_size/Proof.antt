use borrow.Author.Rules.{rules}
use Rattle.xdr.specs.Laws.Lays.{lays, sums}
use Rattle.nfsattr.specs.Laws.Bytes.{fsinfo-size, post-op-attr-small}
use Rattle.nfsattr.proofs.put.attr.fsinfo3_size.Statement.{statement}
use Rattle.nfsattr.proofs.put.attr.fsinfo3_size.Tie as tie

pub fsinfo3_size_spec : {M : Type 1} → statement M
fsinfo3_size_spec = tie.close (tie.spec (search rules) (λ c. search (sums, post-op-attr-small)) (λ c. search (lays, fsinfo-size)))
