-- made by tools/generate from crates/mount/rfc/mnt.x
use native.Mathlib.Omega.{arith}
use borrow.Author.Rules.{rules}
use Rattle.xdr.specs.Laws.Lays.{sums, by-words}
use Rattle.mount.proofs.mnt.mountres3_ok_size.Statement.{statement}
use Rattle.mount.proofs.mnt.mountres3_ok_size.Tie as tie

pub mountres3_ok_size_spec : {M : Type 1} → statement M
mountres3_ok_size_spec = tie.close (tie.spec (search rules) (search rules) (λ c. search (sums, by-words)) (λ c. omega arith))
