use borrow.Author.Rules.{rules}
use Rattle.door.specs.Laws.Taken.{told-again, told-whole}
use Rattle.door.specs.Laws.TakenFattr.{fattr3-long}
use Rattle.door.proofs.values_read.yugerzat_read_fattr3.Goals as goal

pub returns-in_default : goal.returns-in_default
returns-in_default c = search (told-again, fattr3-long, rules)

pub returns : goal.returns
returns c = search (told-whole, rules)
