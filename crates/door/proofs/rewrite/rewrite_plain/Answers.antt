-- made by tools/generate from kinds.txt
use borrow.Author.Rules.{rules}
use Rattle.door.specs.Laws.Exports.{rewrite-short, rewrite-told}
use Rattle.door.proofs.rewrite.rewrite_plain.Goals as goal

pub returns-then-info-lt3 : goal.returns-then-info-lt3
returns-then-info-lt3 g c = search (rewrite-short, rules)

pub returns : goal.returns
returns g c = search (rewrite-told, rules, g.met.K.Kind.listed)
