-- Ranges: a diropargs3 from two sources means a message in range.
-- Assumes nothing.
use mathlib.Core.List.{List}
use Prim.Native.Nat.{ℕ}
use Rattle.xdr.specs.Meaning.Bytes.{Bytes}
use Rattle.xdr.specs.Meaning.Formats.{piece_held}
use Rattle.xdr.specs.Laws.Pieces.{piece-good}
use Rattle.xdr.specs.Laws.Putting.{place_at, place-room}
use Rattle.nfs.specs.Meaning.Dir.{nfs_fh, diropargs}
use Rattle.nfs.specs.Meaning.Sources.{diropargs_from}
use Rattle.nfs.specs.Laws.Sources.{DirReady, dir-from-off, dir-from-ready, dir-from-on}
use Rattle.nfs.specs.declared.dir.diropargs3.{diropargs3}

pub dir-from-good : (s t : List ℕ) (x : diropargs3) → Bytes s → Bytes t → DirReady s t x → diropargs.codec.kind.Good (diropargs_from s t x)
unfolding diropargs nfs_fh piece_held
dir-from-good s t x h g r = (piece-good s x.dir.«data» h r.dir.short, piece-good t x.name g r.name.short)

pub ruleset writes-two = (place_at, place-room, dir-from-off, dir-from-ready, dir-from-on, dir-from-good)
