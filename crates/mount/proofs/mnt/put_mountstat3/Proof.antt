-- made by tools/generate from crates/mount/rfc/mnt.x
use borrow.Author.Rules.{rules}
use Rattle.xdr.specs.Laws.Lays.{lays}
use Rattle.mount.specs.Laws.Mnt.{mountstat-bytes}
use Rattle.mount.proofs.mnt.put_mountstat3.Statement.{statement}
use Rattle.mount.proofs.mnt.put_mountstat3.Tie as tie

pub put_mountstat3_spec : {M : Type 1} → statement M
put_mountstat3_spec = tie.close (tie.spec (search rules) (search rules) (search rules) (λ c. search (lays, mountstat-bytes)))
