-- A name in a directory whose handle lies in one source, and the name in another: what it means, and what writing it is.
-- Assumes nothing.
use Rattle.std.specs.Prelude.{◌≡◌, ◌&&◌, List, ℕ, length, Some, None}
use Rattle.std.specs.Prelude as std
use Rattle.xdr.specs.Meaning.Answer.{Written, done}
use Rattle.xdr.specs.Meaning.Formats.{bytes}
use Rattle.xdr.specs.Meaning.Pieces.{is_inside}
use Rattle.xdr.specs.Meaning.Sources.{longer, WritesFrom}
use Rattle.nfs.specs.Meaning.Dir.{nfs_fh, Diropargs, diropargs}
use Rattle.nfs.specs.declared.dir.diropargs3.{diropargs3}

abbrev pub diropargs_from : (dirs names : List ℕ) → diropargs3 → Diropargs
diropargs_from s t x = record { dir = nfs_fh.held.mean s x.dir; name = bytes.held.mean t x.name }

abbrev pub WritesDiropargsFrom : (dirs names : List ℕ) (x : diropargs3) (at : ℕ) (o : List ℕ) (w : Written) (o' : List ℕ) → Type 0
WritesDiropargsFrom s t x =
    WritesFrom diropargs.codec (diropargs_from s t x) (longer (length s) (length t)) (nfs_fh.held.inside s x.dir && is_inside t x.name)

-- written so, or not at all; it may always be not at all
pub record FitsDiropargsFrom (s t : List ℕ) (x : diropargs3) (at : ℕ) (o : List ℕ) (r : std.Option ℕ) (o' : List ℕ) : Type 0 where
  pub off : r ≡ None → o' ≡ o
  pub on : (n : ℕ) → r ≡ Some n → WritesDiropargsFrom s t x at o (done n) o'
