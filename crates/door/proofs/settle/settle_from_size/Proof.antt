use borrow.Author.Rules.{rules}
use Rattle.door.specs.Laws.Settled.{settle-last, flag-long}
use Rattle.door.proofs.settle.settle_from_size.Statement.{statement}
use Rattle.door.proofs.settle.settle_from_size.Tie as tie

pub settle_from_size_spec : {M : Type 1} → statement M
settle_from_size_spec = tie.close (tie.spec (search rules) (λ c. search flag-long) (λ c. search settle-last))
