use Rattle.door.specs.Laws.Exports.{judge-told}
use Rattle.door.proofs.exports.judge_any.Goals as goal

pub returns : goal.returns
returns c = judge-told _ _ _ _ _ _ _ _ c.if-info-lt3.false c.tell_judged.ensures c.copy_kind-c.ensures
