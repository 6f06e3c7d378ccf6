use borrow.Author.Rules.{rules}
use Rattle.door.specs.Laws.Taken.{whole-answer}
use Rattle.door.proofs.sattr3.take_sattr3.Goals as goal

pub returns : goal.returns
returns c = search (whole-answer, rules)
