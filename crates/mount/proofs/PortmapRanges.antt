-- made by tools/generate from crates/mount/rfc/portmap.x
-- Ranges: every value of a declared type means a message in range.
-- Assumes nothing.
use mathlib.Core.List.{List}
use mir.Val.{Val}
use denote.Laws.{Is}
use Rattle.xdr.specs.Laws.Ranges.{word_good}
use Rattle.mount.specs.Meaning.Portmap.{port_mapping}
use Rattle.mount.specs.declared.portmap.mapping.{mapping}
use Rattle.mount.specs.contracts.portmap.mapping as mapping·

pub port-mapping-good : (m : mapping) {vs : List Val} → Is mapping·.the_row m vs → port_mapping.kind.Good m
unfolding port_mapping
port-mapping-good m p = search (word_good)
