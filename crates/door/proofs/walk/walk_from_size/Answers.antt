use Rattle.door.specs.Laws.Walked.{walk-two}
use Rattle.door.proofs.walk.walk_from_size.Goals as goal

pub returns : goal.returns
returns c = search (walk-two, c.in_ok-size.ensures)
