-- made by tools/generate from crates/mount/rfc/mnt.x
use borrow.Author.Rules.{rules}
use Rattle.xdr.specs.Laws.Numbers.{numbered}
use Rattle.mount.specs.Meaning.Mnt.{mountfail_number}
use Rattle.mount.proofs.mnt.mountfail3.number.Statement.{statement}
use Rattle.mount.proofs.mnt.mountfail3.number.Tie as tie

pub number_spec : {M : Type 1} → statement M
number_spec = tie.close (tie.spec (search rules) (search rules) (search rules) (search rules) (search rules) (search rules) (search rules) (search rules) (search rules) (λ c. search (numbered mountfail_number)) (λ c. search (numbered mountfail_number)) (λ c. search (numbered mountfail_number)) (λ c. search (numbered mountfail_number)) (λ c. search (numbered mountfail_number)) (λ c. search (numbered mountfail_number)) (λ c. search (numbered mountfail_number)) (λ c. search (numbered mountfail_number)) (λ c. search (numbered mountfail_number)))
