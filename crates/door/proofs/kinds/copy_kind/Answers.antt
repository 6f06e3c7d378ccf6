-- made by tools/generate from kinds.txt
use Rattle.std.proofs.Common.{refl, ◌++◌, arith}
use Rattle.door.specs.Meaning.Kinds.{item_kinds, closed_kinds, message_kinds, attribute_kinds, change_kinds, procedure_kinds, current_kinds, mount_kinds}
use Rattle.door.specs.Laws.Copy.{kind-first, kind-amid, kind-last}
use Rattle.door.proofs.kinds.copy_kind.Goals as goal

pub returns-then-kind-lt9 : goal.returns-then-kind-lt9
returns-then-kind-lt9 c = kind-first item_kinds (closed_kinds ++ message_kinds ++ attribute_kinds ++ change_kinds ++ procedure_kinds ++ current_kinds ++ mount_kinds) c.copy_item.ensures (omega arith)

pub returns-then-kind-lt18 : goal.returns-then-kind-lt18
returns-then-kind-lt18 c = kind-amid item_kinds closed_kinds _ 9 (message_kinds ++ attribute_kinds ++ change_kinds ++ procedure_kinds ++ current_kinds ++ mount_kinds) c.copy_closed.ensures (omega arith) (omega arith) refl

pub returns-then-kind-lt28 : goal.returns-then-kind-lt28
returns-then-kind-lt28 c = kind-amid (item_kinds ++ closed_kinds) message_kinds _ 18 (attribute_kinds ++ change_kinds ++ procedure_kinds ++ current_kinds ++ mount_kinds) c.copy_message.ensures (omega arith) (omega arith) refl

pub returns-then-kind-lt38 : goal.returns-then-kind-lt38
returns-then-kind-lt38 c = kind-amid (item_kinds ++ closed_kinds ++ message_kinds) attribute_kinds _ 28 (change_kinds ++ procedure_kinds ++ current_kinds ++ mount_kinds) c.copy_attributes.ensures (omega arith) (omega arith) refl

pub returns-then-kind-lt47 : goal.returns-then-kind-lt47
returns-then-kind-lt47 c = kind-amid (item_kinds ++ closed_kinds ++ message_kinds ++ attribute_kinds) change_kinds _ 38 (procedure_kinds ++ current_kinds ++ mount_kinds) c.copy_change.ensures (omega arith) (omega arith) refl

pub returns-then-kind-lt59 : goal.returns-then-kind-lt59
returns-then-kind-lt59 c = kind-amid (item_kinds ++ closed_kinds ++ message_kinds ++ attribute_kinds ++ change_kinds) procedure_kinds _ 47 (current_kinds ++ mount_kinds) c.copy_procedure.ensures (omega arith) (omega arith) refl

pub returns-then-kind-lt67 : goal.returns-then-kind-lt67
returns-then-kind-lt67 c = kind-amid (item_kinds ++ closed_kinds ++ message_kinds ++ attribute_kinds ++ change_kinds ++ procedure_kinds) current_kinds _ 59 mount_kinds c.copy_current.ensures (omega arith) (omega arith) refl

pub returns : goal.returns
returns c = kind-last (item_kinds ++ closed_kinds ++ message_kinds ++ attribute_kinds ++ change_kinds ++ procedure_kinds ++ current_kinds) mount_kinds _ 67 c.copy_mount.ensures (omega arith) refl
