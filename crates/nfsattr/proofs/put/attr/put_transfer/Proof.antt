use borrow.Author.Rules.{rules}
use Rattle.xdr.specs.Laws.Lays.{lays}
use Rattle.nfsattr.specs.Laws.Bytes.{transfer-bytes}
use Rattle.nfsattr.proofs.put.attr.put_transfer.Statement.{statement}
use Rattle.nfsattr.proofs.put.attr.put_transfer.Tie as tie

pub put_transfer_spec : {M : Type 1} → statement M
put_transfer_spec = tie.close (tie.spec (search rules) (search rules) (λ c. search (lays, transfer-bytes)))
