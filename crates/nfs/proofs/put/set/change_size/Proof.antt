use borrow.Author.Rules.{rules}
use Rattle.xdr.specs.Laws.Lays.{sums}
use Rattle.nfs.specs.Laws.Bytes.{set-atime-small, set-mtime-small, change-size}
use Rattle.nfs.specs.Laws.Change.{set-size-small}
use Rattle.nfs.proofs.put.set.change_size.Statement.{statement}
use Rattle.nfs.proofs.put.set.change_size.Tie as tie

pub change_size_spec : {M : Type 1} → statement M
change_size_spec =
    tie.close
    (tie.spec
    (search rules) (search rules) (λ c. search (sums, set-size-small, set-atime-small)) (search rules)
    (λ c. search (sums, set-size-small, set-atime-small, set-mtime-small)) (λ c. search change-size))
