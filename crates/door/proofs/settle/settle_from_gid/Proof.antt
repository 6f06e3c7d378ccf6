use borrow.Author.Rules.{rules}
use Rattle.xdr.specs.Laws.Fixed.{word-fixed}
use Rattle.door.specs.Laws.Walked.{from_size}
use Rattle.door.specs.Laws.Settled.{settle-next, flag-short, both_long}
use Rattle.door.specs.Laws.Still.{still-word}
use Rattle.door.proofs.settle.settle_from_gid.Statement.{statement}
use Rattle.door.proofs.settle.settle_from_gid.Tie as tie

pub settle_from_gid_spec : {M : Type 1} → statement M
settle_from_gid_spec = tie.close (tie.spec (search rules) (λ c κs. search (flag-short, rules)) (λ c. search both_long) (λ c. search (settle-next word-fixed still-word from_size)))
