-- made by tools/generate from crates/nfs/rfc/change.x
use borrow.Author.Rules.{rules}
use Rattle.xdr.specs.Laws.Fixed.{hyper-fixed}
use Rattle.xdr.specs.Laws.Optional.{none-size, some_size}
use Rattle.nfs.specs.Laws.Change.{set-size-optional}
use Rattle.nfs.proofs.change.set_size3_size.Statement.{statement}
use Rattle.nfs.proofs.change.set_size3_size.Tie as tie

pub set_size3_size_spec : {M : Type 1} → statement M
set_size3_size_spec = tie.close (tie.spec (search rules) (search rules) (λ c. search (none-size set-size-optional)) (λ c. search (some_size set-size-optional hyper-fixed)))
