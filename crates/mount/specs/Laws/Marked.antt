-- What the marks of paths and lists tell.
-- Assumes nothing.
use Rattle.std.specs.Prelude.{◌≡◌, Bool, List, [], ◌∷◌}
use Rattle.xdr.specs.Meaning.Format.{◌⨟◌}
use Rattle.xdr.specs.Meaning.Formats.{bytes, piece_held}
use Rattle.xdr.specs.Meaning.Marks.{Marked, MarksAre}
use Rattle.xdr.specs.Laws.Marked.{bytes-marked, pair-marked, named-marked, bounded-marked}
use Rattle.xdr.proofs.Flagged.{maybe-marked, list-marked}
use Rattle.xdr.specs.declared.piece.Piece.{Piece}
use Rattle.mount.specs.Meaning.Path.{long_path, dirpath}
use Rattle.mount.specs.Meaning.Options.{option_cases}
use Rattle.mount.specs.Meaning.Group.{groups, next-group}
use Rattle.mount.specs.Meaning.Export.{node_names, node, nodes, long_entry, long_list, exports, next_node, next-export}

pub dirpath-marked : Marked dirpath.held
unfolding dirpath
dirpath-marked = bounded-marked bytes long_path bytes-marked

pub groups-marked : Marked groups.held
unfolding groups
groups-marked = list-marked bytes bytes-marked

pub next-group-marked : Marked next-group.held
unfolding next-group
next-group-marked = maybe-marked bytes bytes-marked option_cases

pub node-marked : Marked node.held
unfolding node
node-marked = named-marked (bytes ⨟ groups) node_names (pair-marked bytes-marked groups-marked)

-- an export list has one mark over all its entries
pub nodes-marked : Marked nodes.held
unfolding nodes
nodes-marked = list-marked node node-marked

pub exports-marked : Marked exports.held
unfolding exports
exports-marked = bounded-marked nodes long_list nodes-marked

pub next-node-marked : Marked next_node.held
unfolding next_node
next-node-marked = maybe-marked node node-marked option_cases

pub next-export-marked : Marked next-export.held
unfolding next-export
next-export-marked = bounded-marked next_node long_entry next-node-marked

-- which they are
pub dirpath-marks : (x : Piece) (l : List Bool) → l ≡ x.clean ∷ [] → MarksAre dirpath x l
unfolding dirpath piece_held
dirpath-marks x l e = record { are = λ s. e }

pub exports-marks : (x : Piece) (l : List Bool) → l ≡ x.clean ∷ [] → MarksAre exports x l
unfolding exports nodes
exports-marks x l e = record { are = λ s. e }
