use borrow.Author.Rules.{rules}
use Rattle.mount.specs.Laws.Same.{count-is, count-is-not}
use Rattle.mount.proofs.same.with_count.Statement.{statement}
use Rattle.mount.proofs.same.with_count.Tie as tie

pub with_count_spec : {M : Type 1} → statement M
with_count_spec = tie.close (tie.spec (λ c. search (rules, count-is)) (λ c. search (rules, count-is-not)))
