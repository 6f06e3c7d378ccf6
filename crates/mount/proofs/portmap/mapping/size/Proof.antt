-- made by tools/generate from crates/mount/rfc/portmap.x
use Rattle.xdr.specs.Laws.Fixed.{of_size}
use Rattle.mount.specs.Laws.Portmap.{port-mapping-fixed}
use Rattle.mount.proofs.portmap.mapping.size.Statement.{statement}
use Rattle.mount.proofs.portmap.mapping.size.Tie as tie

pub size_spec : {M : Type 1} → statement M
size_spec = tie.close (tie.spec (λ c. of_size port-mapping-fixed))
