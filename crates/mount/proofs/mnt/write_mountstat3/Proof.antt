-- made by tools/generate from crates/mount/rfc/mnt.x
use borrow.Author.Rules.{rules}
use Rattle.mount.specs.Laws.Mnt.{mountstat-writes}
use Rattle.mount.proofs.mnt.write_mountstat3.Statement.{statement}
use Rattle.mount.proofs.mnt.write_mountstat3.Tie as tie

pub write_mountstat3_spec : {M : Type 1} → statement M
write_mountstat3_spec = tie.close (tie.spec (search rules) (search rules) (search rules) (λ c. search mountstat-writes))
