use Rattle.door.specs.Laws.Figures.{listed, made_as}
use Rattle.door.proofs.values_read.put_fattr3.Goals as goal

pub returns : goal.returns
returns c = search (made_as, listed)
