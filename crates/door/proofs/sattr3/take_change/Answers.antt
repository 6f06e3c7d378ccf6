use Rattle.door.specs.Laws.Taken.{change-2, change-3, change-lost, change-took}
use Rattle.door.proofs.sattr3.take_change.Goals as goal

pub returns-in_err-atime : goal.returns-in_err-atime
returns-in_err-atime c = search (change-2, change-lost, c.in_ok-size.ensures, c.in_err-atime.ensures)

pub returns-in_err-mtime : goal.returns-in_err-mtime
returns-in_err-mtime c = search (change-3, change-lost, c.in_ok-size.ensures, c.in_ok-atime.ensures, c.in_err-mtime.ensures)

pub returns : goal.returns
returns c = search (change-took, c.in_ok-size.ensures, c.in_ok-atime.ensures, c.in_ok-mtime.ensures)
