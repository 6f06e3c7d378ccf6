-- made by tools/generate from crates/nfs/rfc/change.x
use borrow.Author.Rules.{rules}
use Rattle.xdr.specs.Laws.Lays.{lays}
use Rattle.xdr.specs.Laws.Optional.{none-bytes, some-hyper}
use Rattle.nfs.specs.Laws.Change.{set-size-optional}
use Rattle.nfs.proofs.change.put_set_size3.Statement.{statement}
use Rattle.nfs.proofs.change.put_set_size3.Tie as tie

pub put_set_size3_spec : {M : Type 1} → statement M
put_set_size3_spec = tie.close (tie.spec (search rules) (search rules) (search rules) (search rules) (search rules) (λ c. search (lays, none-bytes set-size-optional)) (search rules) (λ c. search (lays, some-hyper set-size-optional)))
