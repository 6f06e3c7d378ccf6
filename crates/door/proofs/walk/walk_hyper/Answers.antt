use Rattle.xdr.specs.Meaning.Items.{hyper}
use Rattle.door.specs.Laws.Walked.{walk_none, walk-some}
use Rattle.door.proofs.walk.walk_hyper.Goals as goal

pub returns-then-not-flag : goal.returns-then-not-flag
returns-then-not-flag c = search (walk_none hyper)

pub returns : goal.returns
returns c = search (walk-some hyper)
