use borrow.Author.Rules.{rules}
use Rattle.xdr.specs.Laws.Lays.{sums}
use Rattle.nfs.specs.Laws.Bytes.{owner-small, change-small, sattr-size}
use Rattle.nfs.proofs.put.set.sattr3_size.Statement.{statement}
use Rattle.nfs.proofs.put.set.sattr3_size.Tie as tie

pub sattr3_size_spec : {M : Type 1} → statement M
sattr3_size_spec = tie.close (tie.spec (search rules) (search rules) (λ c. search (sums, owner-small, change-small)) (λ c. search sattr-size))
