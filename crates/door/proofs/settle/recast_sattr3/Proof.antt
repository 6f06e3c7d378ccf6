use borrow.Author.Rules.{rules}
use Rattle.door.specs.Laws.Recast.{laid-long, cast-plain, cast-room, cast-short, cast-long, cast-loose}
use Rattle.door.proofs.settle.recast_sattr3.Statement.{statement}
use Rattle.door.proofs.settle.recast_sattr3.Tie as tie

pub recast_sattr3_spec : {M : Type 1} → statement M
recast_sattr3_spec = tie.close (tie.spec (search rules) (search rules) (search rules) (search rules) (λ c. search (laid-long, rules)) (λ c. search (cast-plain, rules)) (search rules) (search rules) (search rules) (λ c. search (cast-room, rules)) (λ c κs. search (cast-short, rules)) (λ c. search (cast-long, rules)) (λ c. search (cast-loose, rules)))
