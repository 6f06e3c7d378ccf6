-- made by tools/generate from crates/nfs/rfc/change.x
use borrow.Author.Rules.{rules}
use Rattle.xdr.specs.Laws.Fixed.{word-fixed}
use Rattle.xdr.specs.Laws.Optional.{none-size, some_size}
use Rattle.nfs.specs.Laws.Change.{set-gid-optional}
use Rattle.nfs.proofs.change.set_gid3_size.Statement.{statement}
use Rattle.nfs.proofs.change.set_gid3_size.Tie as tie

pub set_gid3_size_spec : {M : Type 1} → statement M
set_gid3_size_spec = tie.close (tie.spec (search rules) (search rules) (λ c. search (none-size set-gid-optional)) (λ c. search (some_size set-gid-optional word-fixed)))
