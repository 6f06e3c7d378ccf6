use Rattle.door.specs.Laws.TakenFattr.{times-put}
use Rattle.door.proofs.fattr3.take_times.Goals as goal

pub returns : goal.returns
returns c = search times-put
