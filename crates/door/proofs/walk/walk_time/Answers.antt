use borrow.Author.Rules.{rules}
use Rattle.door.specs.Laws.Walked.{walk-untimed, walk-timed}
use Rattle.door.proofs.walk.walk_time.Goals as goal

pub returns-then-tag-eq2 : goal.returns-then-tag-eq2
returns-then-tag-eq2 c = search (walk-timed, rules)

pub returns-then-tag-lt2 : goal.returns-then-tag-lt2
returns-then-tag-lt2 c = search (walk-untimed, rules)
