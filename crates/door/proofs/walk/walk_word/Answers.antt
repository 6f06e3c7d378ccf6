use Rattle.xdr.specs.Meaning.Items.{word}
use Rattle.door.specs.Laws.Walked.{walk_none, walk-some}
use Rattle.door.proofs.walk.walk_word.Goals as goal

pub returns-then-not-flag : goal.returns-then-not-flag
returns-then-not-flag c = search (walk_none word)

pub returns : goal.returns
returns c = search (walk-some word)
