use borrow.Author.Rules.{rules}
use Rattle.xdr.specs.Laws.Lays.{lays, size_is}
use Rattle.nfsattr.specs.Laws.Sizes.{transfer-fixed}
use Rattle.nfsattr.specs.Laws.Words.{transfers-size}
use Rattle.nfsattr.proofs.put.attr.put_transfers.Statement.{statement}
use Rattle.nfsattr.proofs.put.attr.put_transfers.Tie as tie

pub put_transfers_spec : {M : Type 1} → statement M
put_transfers_spec =
    tie.close
    (tie.spec
    (λ c. search (lays, transfers-size)) (search rules) (search rules) (search rules) (search rules) (search rules) (search rules) (search rules)
    (search rules) (search rules) (λ c. search (lays, transfers-size, size_is transfer-fixed)))
