use Rattle.door.specs.Laws.TakenFattr.{sizes-put}
use Rattle.door.proofs.fattr3.take_sizes.Goals as goal

pub returns : goal.returns
returns c = search sizes-put
