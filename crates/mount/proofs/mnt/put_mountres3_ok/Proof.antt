-- made by tools/generate from crates/mount/rfc/mnt.x
use borrow.Author.Rules.{rules}
use Rattle.xdr.specs.Laws.Write.{of-long}
use Rattle.xdr.specs.Laws.Writers.{put-outside, put-short}
use Rattle.xdr.specs.Laws.Fields.{lays_all}
use Rattle.mount.specs.Laws.Mnt.{mountres-ok-writer, mountres-ok-lays}
use Rattle.mount.proofs.mnt.put_mountres3_ok.Statement.{statement}
use Rattle.mount.proofs.mnt.put_mountres3_ok.Tie as tie

pub put_mountres3_ok_spec : {M : Type 1} → statement M
put_mountres3_ok_spec = tie.close (tie.spec (λ c. search of-long) (search rules) (λ c. search (put-outside mountres-ok-writer)) (search rules) (λ c. search (put-short mountres-ok-writer)) (search rules) (search rules) (λ c. search (lays_all mountres-ok-writer, mountres-ok-lays)))
