use borrow.Author.Rules.{rules}
use Rattle.door.specs.Laws.Recast.{walked-span, walked-order, walked-short, recast-long, recast-told, recast-again}
use Rattle.door.specs.Laws.Taken.{sets-long}
use Rattle.door.proofs.settle.rewrite_walked.Statement.{statement}
use Rattle.door.proofs.settle.rewrite_walked.Tie as tie

pub rewrite_walked_spec : {M : Type 1} → statement M
rewrite_walked_spec = tie.close (tie.spec (λ c. search (walked-order, rules)) (search rules) (search rules) (search rules) (search rules) (search rules) (search rules) (search rules) (search rules) (search rules) (search rules) (search rules) (search rules) (λ c. search (recast-again, rules)) (λ c κs. search (walked-span, walked-short, rules)) (search rules) (search rules) (λ c. search (recast-long, rules)) (λ c. search (sets-long, rules)) (λ c. search (recast-told, rules)))
