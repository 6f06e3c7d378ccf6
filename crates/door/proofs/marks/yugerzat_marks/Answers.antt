use Rattle.door.specs.Laws.Marks.{marks-told}
use Rattle.door.proofs.marks.yugerzat_marks.Goals as goal

pub returns : goal.returns
returns c = marks-told _ _ _ _ _ _ _ _ c.if-info-lt5.false c.tell_marks.ensures c.copy_kind-c.ensures
