use borrow.Author.Rules.{rules}
use Rattle.xdr.specs.Meaning.Views.{view}
use Rattle.door.specs.Laws.Values.{value-told}
use Rattle.nfs.specs.declared.set.sattr3.{sattr3}
use Rattle.door.proofs.values_read.read_sattr3_carefully.Goals as goal

pub returns-in-Ok : goal.returns-in-Ok
returns-in-Ok c = search (value-told {S = sattr3} view, rules)
