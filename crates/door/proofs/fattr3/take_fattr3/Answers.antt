use borrow.Author.Rules.{rules}
use Rattle.door.specs.Laws.Taken.{whole-answer}
use Rattle.door.proofs.fattr3.take_fattr3.Goals as goal

pub returns : goal.returns
returns c = search (whole-answer, rules)
