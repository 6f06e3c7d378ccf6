-- made by tools/generate from crates/nfsdata/rfc/write.x
use borrow.Author.Rules.{rules}
use Rattle.nfsdata.specs.Laws.Write.{stable-how-writes}
use Rattle.nfsdata.proofs.write.write_stable_how.Statement.{statement}
use Rattle.nfsdata.proofs.write.write_stable_how.Tie as tie

pub write_stable_how_spec : {M : Type 1} → statement M
write_stable_how_spec = tie.close (tie.spec (search rules) (search rules) (search rules) (λ c. search stable-how-writes))
