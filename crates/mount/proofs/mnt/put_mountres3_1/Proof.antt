-- made by tools/generate from crates/mount/rfc/mnt.x
use borrow.Author.Rules.{rules}
use Rattle.xdr.specs.Laws.Fields.{lays-none, fixed-writer, lays-both, lays-of, lays-codec}
use Rattle.mount.specs.Laws.Mnt.{mountstat-fixed, mountres-ok-writer}
use Rattle.mount.proofs.mnt.put_mountres3_1.Statement.{statement}
use Rattle.mount.proofs.mnt.put_mountres3_1.Tie as tie

pub put_mountres3_1_spec : {M : Type 1} → statement M
put_mountres3_1_spec = tie.close (tie.spec (λ c. search (lays-none (fixed-writer mountstat-fixed) mountres-ok-writer)) (search rules) (search rules) (search rules) (search rules) (search rules) (search rules) (search rules) (search rules) (search rules) (λ c. search (lays-both (fixed-writer mountstat-fixed) mountres-ok-writer, lays-of, lays-codec)))
