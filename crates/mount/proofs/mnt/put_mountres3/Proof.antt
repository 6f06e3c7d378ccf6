-- made by tools/generate from crates/mount/rfc/mnt.x
use borrow.Author.Rules.{rules}
use Rattle.xdr.specs.Laws.Write.{of-long}
use Rattle.xdr.specs.Laws.Writers.{put-outside, put-short}
use Rattle.xdr.specs.Laws.Fields.{lays_all}
use Rattle.xdr.specs.Laws.Status.{ok-lays, alone-lays}
use Rattle.mount.specs.Laws.Mnt.{mountres-writer, mountres-status}
use Rattle.mount.proofs.mnt.put_mountres3.Statement.{statement}
use Rattle.mount.proofs.mnt.put_mountres3.Tie as tie

pub put_mountres3_spec : {M : Type 1} → statement M
put_mountres3_spec = tie.close (tie.spec (λ c. search of-long) (search rules) (λ c. search (put-outside mountres-writer)) (search rules) (λ c. search (put-short mountres-writer)) (search rules) (search rules) (search rules) (search rules) (search rules) (λ c. search (lays_all mountres-writer, ok-lays mountres-status)) (search rules) (λ c. search (lays_all mountres-writer, alone-lays mountres-status)))
