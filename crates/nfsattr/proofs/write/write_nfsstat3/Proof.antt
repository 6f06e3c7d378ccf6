use borrow.Author.Rules.{rules}
use Rattle.nfsattr.specs.Laws.Closed.{nfsstat-writes}
use Rattle.nfsattr.proofs.write.write_nfsstat3.Statement.{statement}
use Rattle.nfsattr.proofs.write.write_nfsstat3.Tie as tie

pub write_nfsstat3_spec : {M : Type 1} → statement M
write_nfsstat3_spec = tie.close (tie.spec (search rules) (search rules) (search rules) (λ c. search nfsstat-writes))
