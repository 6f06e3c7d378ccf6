-- made by tools/generate from crates/mount/rfc/mnt.x
use borrow.Author.Rules.{rules}
use Rattle.xdr.specs.Laws.Status.{ok-inside, alone-inside}
use Rattle.mount.specs.Laws.Mnt.{mountres-status}
use Rattle.mount.proofs.mnt.mountres3_inside.Statement.{statement}
use Rattle.mount.proofs.mnt.mountres3_inside.Tie as tie

pub mountres3_inside_spec : {M : Type 1} → statement M
mountres3_inside_spec = tie.close (tie.spec (search rules) (search rules) (search rules) (λ c. search (ok-inside mountres-status)) (λ c. search (alone-inside mountres-status)))
