use borrow.Author.Rules.{rules}
use Rattle.nfs.specs.Laws.Closed.{time-how-writes}
use Rattle.nfs.proofs.write.write_time_how.Statement.{statement}
use Rattle.nfs.proofs.write.write_time_how.Tie as tie

pub write_time_how_spec : {M : Type 1} → statement M
write_time_how_spec = tie.close (tie.spec (search rules) (search rules) (search rules) (λ c. search time-how-writes))
