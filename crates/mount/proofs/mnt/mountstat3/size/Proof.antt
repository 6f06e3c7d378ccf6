-- made by tools/generate from crates/mount/rfc/mnt.x
use Rattle.xdr.specs.Laws.Fixed.{of_size}
use Rattle.mount.specs.Laws.Mnt.{mountstat-fixed}
use Rattle.mount.proofs.mnt.mountstat3.size.Statement.{statement}
use Rattle.mount.proofs.mnt.mountstat3.size.Tie as tie

pub size_spec : {M : Type 1} → statement M
size_spec = tie.close (tie.spec (λ c. of_size mountstat-fixed))
