use Rattle.door.specs.Laws.Taken.{whole-lost}
use Rattle.door.specs.Laws.TakenFattr.{group-2, group-3, groups-took}
use Rattle.door.proofs.fattr3.take_groups.Goals as goal

pub returns-in_err-sizes : goal.returns-in_err-sizes
returns-in_err-sizes c = search (group-2, whole-lost, c.in_ok-ids.ensures, c.in_err-sizes.ensures)

pub returns-in_err-times : goal.returns-in_err-times
returns-in_err-times c = search (group-3, whole-lost, c.in_ok-ids.ensures, c.in_ok-sizes.ensures, c.in_err-times.ensures)

pub returns : goal.returns
returns c = search (groups-took, c.in_ok-ids.ensures, c.in_ok-sizes.ensures, c.in_ok-times.ensures)
