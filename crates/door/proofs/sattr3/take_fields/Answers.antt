use Rattle.door.specs.Laws.Taken.{fields-2, whole-lost, fields-took}
use Rattle.door.proofs.sattr3.take_fields.Goals as goal

pub returns-in_err-change : goal.returns-in_err-change
returns-in_err-change c = search (fields-2, whole-lost, c.in_ok-owner.ensures, c.in_err-change.ensures)

pub returns : goal.returns
returns c = search (fields-took, c.in_ok-owner.ensures, c.in_ok-change.ensures)
