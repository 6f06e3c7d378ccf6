use borrow.Author.Rules.{rules}
use Rattle.mount.specs.Laws.Same.{stands-refused, stands-within, stands-over}
use Rattle.mount.proofs.same.stands.Goals as goal

pub returns-in_default : goal.returns-in_default
returns-in_default c = search (rules, stands-refused)

pub returns-in-Within : goal.returns-in-Within
returns-in-Within c = search (rules, stands-within)

pub returns-in-Over : goal.returns-in-Over
returns-in-Over c = search (rules, stands-over)
