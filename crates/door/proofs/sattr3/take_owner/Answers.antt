use Rattle.door.specs.Laws.Taken.{owner-took}
use Rattle.door.proofs.sattr3.take_owner.Goals as goal

pub returns : goal.returns
returns c = search (owner-took, c.in_ok-mode.ensures, c.in_ok-uid.ensures, c.in_ok-gid.ensures)
