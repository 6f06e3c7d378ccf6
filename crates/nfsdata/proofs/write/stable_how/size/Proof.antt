-- made by tools/generate from crates/nfsdata/rfc/write.x
use Rattle.xdr.specs.Laws.Fixed.{of_size}
use Rattle.nfsdata.specs.Laws.Write.{stable-how-fixed}
use Rattle.nfsdata.proofs.write.stable_how.size.Statement.{statement}
use Rattle.nfsdata.proofs.write.stable_how.size.Tie as tie

pub size_spec : {M : Type 1} → statement M
size_spec = tie.close (tie.spec (λ c. of_size stable-how-fixed))
