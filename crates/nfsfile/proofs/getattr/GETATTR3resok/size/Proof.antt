-- made by tools/generate from crates/nfsfile/rfc/getattr.x
use Rattle.xdr.specs.Laws.Fixed.{of_size}
use Rattle.nfsfile.specs.Laws.Getattr.{getattr-resok-fixed}
use Rattle.nfsfile.proofs.getattr.GETATTR3resok.size.Statement.{statement}
use Rattle.nfsfile.proofs.getattr.GETATTR3resok.size.Tie as tie

pub size_spec : {M : Type 1} → statement M
size_spec = tie.close (tie.spec (λ c. of_size getattr-resok-fixed))
