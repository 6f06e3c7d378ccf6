use Rattle.xdr.specs.Meaning.Items.{hyper}
use Rattle.door.specs.Laws.Taken.{set-none, set-some}
use Rattle.door.proofs.sattr3.take_hyper.Goals as goal

pub returns-then-not-flag : goal.returns-then-not-flag
returns-then-not-flag c = search (set-none hyper)

pub returns : goal.returns
returns c = search (set-some hyper)
