use borrow.Author.Rules.{rules}
use Rattle.door.specs.Laws.Taken.{time-unset, time-client}
use Rattle.door.proofs.sattr3.take_time.Goals as goal

pub returns-then-tag-eq2 : goal.returns-then-tag-eq2
returns-then-tag-eq2 c = search (time-client, rules)

pub returns-then-tag-lt2 : goal.returns-then-tag-lt2
returns-then-tag-lt2 c = search (time-unset, rules)
