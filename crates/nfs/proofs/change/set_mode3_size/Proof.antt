-- made by tools/generate from crates/nfs/rfc/change.x
use borrow.Author.Rules.{rules}
use Rattle.xdr.specs.Laws.Fixed.{word-fixed}
use Rattle.xdr.specs.Laws.Optional.{none-size, some_size}
use Rattle.nfs.specs.Laws.Change.{set-mode-optional}
use Rattle.nfs.proofs.change.set_mode3_size.Statement.{statement}
use Rattle.nfs.proofs.change.set_mode3_size.Tie as tie

pub set_mode3_size_spec : {M : Type 1} → statement M
set_mode3_size_spec = tie.close (tie.spec (search rules) (search rules) (λ c. search (none-size set-mode-optional)) (λ c. search (some_size set-mode-optional word-fixed)))
