use Rattle.std.proofs.Common.{rules}
use Rattle.door.specs.Laws.Laid.{word_none, word_some}
use Rattle.door.proofs.values_write.lay_word.Goals as goal

pub returns-then-flag-eq0 : goal.returns-then-flag-eq0
returns-then-flag-eq0 c = search (rules, word_none)

pub returns : goal.returns
returns c = search (rules, word_some)
