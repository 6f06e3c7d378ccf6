use borrow.Author.Rules.{rules}
use Rattle.nfsattr.specs.Laws.Closed.{ftype-writes}
use Rattle.nfsattr.proofs.write.write_ftype3.Statement.{statement}
use Rattle.nfsattr.proofs.write.write_ftype3.Tie as tie

pub write_ftype3_spec : {M : Type 1} → statement M
write_ftype3_spec = tie.close (tie.spec (search rules) (search rules) (search rules) (λ c. search ftype-writes))
