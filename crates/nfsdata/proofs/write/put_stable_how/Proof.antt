-- made by tools/generate from crates/nfsdata/rfc/write.x
use borrow.Author.Rules.{rules}
use Rattle.xdr.specs.Laws.Lays.{lays}
use Rattle.nfsdata.specs.Laws.Write.{stable-how-bytes}
use Rattle.nfsdata.proofs.write.put_stable_how.Statement.{statement}
use Rattle.nfsdata.proofs.write.put_stable_how.Tie as tie

pub put_stable_how_spec : {M : Type 1} → statement M
put_stable_how_spec = tie.close (tie.spec (search rules) (search rules) (search rules) (λ c. search (lays, stable-how-bytes)))
