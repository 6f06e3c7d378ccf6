use borrow.Author.Rules.{rules}
use Rattle.door.specs.Laws.Walked.{six-walked}
use Rattle.door.proofs.walk.walk_sattr3.Goals as goal

pub returns : goal.returns
returns c = search (six-walked, rules)
