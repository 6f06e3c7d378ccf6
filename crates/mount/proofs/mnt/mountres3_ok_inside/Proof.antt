-- made by tools/generate from crates/mount/rfc/mnt.x
use borrow.Author.Rules.{rules}
use Rattle.mount.specs.Laws.Mnt.{mountres-ok-inside}
use Rattle.mount.proofs.mnt.mountres3_ok_inside.Statement.{statement}
use Rattle.mount.proofs.mnt.mountres3_ok_inside.Tie as tie

pub mountres3_ok_inside_spec : {M : Type 1} → statement M
mountres3_ok_inside_spec = tie.close (tie.spec (search rules) (search rules) (λ c. search mountres-ok-inside))
