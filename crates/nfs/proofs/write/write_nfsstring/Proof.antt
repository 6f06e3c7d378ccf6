use borrow.Author.Rules.{rules}
use Rattle.nfs.proofs.write.write_nfsstring.Statement.{statement}
use Rattle.nfs.proofs.write.write_nfsstring.Tie as tie

pub write_nfsstring_spec : {M : Type 1} → statement M
write_nfsstring_spec = tie.close (tie.spec (search rules) (search rules) (λ c. search))
