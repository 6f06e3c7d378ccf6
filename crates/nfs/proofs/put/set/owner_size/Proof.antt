use borrow.Author.Rules.{rules}
use Rattle.xdr.specs.Laws.Lays.{sums}
use Rattle.nfs.specs.Laws.Bytes.{owner-size}
use Rattle.nfs.specs.Laws.Change.{set-mode-small, set-uid-small, set-gid-small}
use Rattle.nfs.proofs.put.set.owner_size.Statement.{statement}
use Rattle.nfs.proofs.put.set.owner_size.Tie as tie

pub owner_size_spec : {M : Type 1} → statement M
owner_size_spec =
    tie.close
    (tie.spec
    (search rules) (search rules) (λ c. search (sums, set-mode-small, set-uid-small)) (search rules)
    (λ c. search (sums, set-mode-small, set-uid-small, set-gid-small)) (λ c. search owner-size))
