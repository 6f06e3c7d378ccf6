use borrow.Author.Rules.{rules}
use Rattle.xdr.specs.Meaning.Views.{view}
use Rattle.door.specs.Laws.Values.{value-told}
use Rattle.nfsattr.specs.declared.attr.fattr3.{fattr3}
use Rattle.door.proofs.values_read.read_fattr3_carefully.Goals as goal

pub returns-in-Ok : goal.returns-in-Ok
returns-in-Ok c = search (value-told {S = fattr3} view, rules)
