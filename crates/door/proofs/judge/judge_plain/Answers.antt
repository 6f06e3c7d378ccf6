-- made by tools/generate from kinds.txt
use borrow.Author.Rules.{rules}
use Rattle.door.specs.Laws.Exports.{judge-short, judge-told}
use Rattle.door.proofs.judge.judge_plain.Goals as goal

pub returns-then-info-lt3 : goal.returns-then-info-lt3
returns-then-info-lt3 g c = search (judge-short, rules)

pub returns : goal.returns
returns g c = search (judge-told, rules, g.met.K.Kind.listed)
