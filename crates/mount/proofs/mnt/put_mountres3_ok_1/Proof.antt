-- made by tools/generate from crates/mount/rfc/mnt.x
use borrow.Author.Rules.{rules}
use Rattle.xdr.specs.Laws.Writers.{bytes-writer, words-writer}
use Rattle.xdr.specs.Laws.Fields.{lays-none, lays-both, lays-of, lays-codec}
use Rattle.mount.proofs.mnt.put_mountres3_ok_1.Statement.{statement}
use Rattle.mount.proofs.mnt.put_mountres3_ok_1.Tie as tie

pub put_mountres3_ok_1_spec : {M : Type 1} → statement M
put_mountres3_ok_1_spec = tie.close (tie.spec (search rules) (λ c. search (lays-none bytes-writer words-writer)) (search rules) (search rules) (search rules) (search rules) (search rules) (search rules) (search rules) (search rules) (search rules) (λ c. search (lays-both bytes-writer words-writer, lays-of, lays-codec)))
