use Rattle.xdr.specs.Meaning.Items.{word}
use Rattle.door.specs.Laws.Taken.{set-none, set-some}
use Rattle.door.proofs.sattr3.take_word.Goals as goal

pub returns-then-not-flag : goal.returns-then-not-flag
returns-then-not-flag c = search (set-none word)

pub returns : goal.returns
returns c = search (set-some word)
