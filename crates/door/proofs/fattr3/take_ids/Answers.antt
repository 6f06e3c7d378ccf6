use Rattle.door.specs.Laws.TakenFattr.{ids-put}
use Rattle.door.proofs.fattr3.take_ids.Goals as goal

pub returns : goal.returns
returns c = search ids-put
