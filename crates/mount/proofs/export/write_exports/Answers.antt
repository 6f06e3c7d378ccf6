use borrow.Author.Rules.{rules}
use Rattle.mount.specs.Laws.Export.{walk_is, list-gone, list_over}
use Rattle.mount.proofs.export.write_exports.Goals as goal

pub returns-in_default : goal.returns-in_default
returns-in_default c = search (rules, list-gone)

pub write_walked-requires : goal.write_walked-requires
write_walked-requires c = search (rules, walk_is)

pub returns-in-Over : goal.returns-in-Over
returns-in-Over c = search (rules, list_over)
