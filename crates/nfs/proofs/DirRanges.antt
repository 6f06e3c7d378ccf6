-- made by tools/generate from crates/nfs/rfc/dir.x
-- Ranges: every value of a declared type means a message in range.
-- Assumes nothing.
use mathlib.Core.Bool.{false, true}
use mathlib.Core.List.{List}
use Prim.Native.Nat.{ℕ, ◌≤◌}
use lib.ListN.{length}
use mir.Val.{Val}
use denote.Laws.{Is}
use Rattle.xdr.specs.Meaning.Answer.{most}
use Rattle.xdr.specs.Meaning.Bytes.{Bytes}
use Rattle.xdr.specs.Meaning.Formats.{piece_held}
use Rattle.xdr.specs.Laws.Pieces.{piece-good}
use Rattle.xdr.specs.Laws.Ranges.{flag-good}
use Rattle.nfs.proofs.Ranges.{sattr-good}
use Rattle.nfs.specs.Meaning.Dir.{nfs_fh, post_op_fh, diropargs, symlinkdata}
use Rattle.nfs.specs.declared.dir.diropargs3.{diropargs3}
use Rattle.nfs.specs.declared.dir.nfs_fh3.{nfs_fh3}
use Rattle.nfs.specs.declared.dir.post_op_fh3.{post_op_fh3}
use Rattle.nfs.specs.declared.dir.symlinkdata3.{symlinkdata3}
use Rattle.nfs.specs.declared.dir.post_op_fh3.TheVariants as postOpFhIs
use Rattle.nfs.specs.contracts.dir.nfs_fh3 as nfs-fh3·
use Rattle.nfs.specs.contracts.dir.post_op_fh3 as post-op-fh3·
use Rattle.nfs.specs.contracts.dir.diropargs3 as diropargs3·
use Rattle.nfs.specs.contracts.dir.symlinkdata3 as symlinkdata3·

module _ (s : List ℕ) (h : Bytes s) (k : length s ≤ most) where
  pub nfs-fh-good : (m : nfs_fh3) {vs : List Val} → Is nfs-fh3·.the_row m vs → nfs_fh.codec.kind.Good (nfs_fh.held.mean s m)
  unfolding nfs_fh piece_held
  nfs-fh-good m p = piece-good s m.«data» h k

  pub post-op-fh-good : (m : post_op_fh3) {vs : List Val} → Is post-op-fh3·.the_row m vs → post_op_fh.codec.kind.Good (post_op_fh.held.mean s m)
  unfolding post_op_fh piece_held
  post-op-fh-good postOpFhIs.Void p = (flag-good false, tt)
  post-op-fh-good (postOpFhIs.handle f) p = (flag-good true, search nfs-fh-good)

  pub diropargs-good : (m : diropargs3) {vs : List Val} → Is diropargs3·.the_row m vs → diropargs.codec.kind.Good (diropargs.held.mean s m)
  unfolding diropargs piece_held
  diropargs-good m p = (search nfs-fh-good, piece-good s m.name h k)

  pub symlinkdata-good : (m : symlinkdata3) {vs : List Val} → Is symlinkdata3·.the_row m vs → symlinkdata.codec.kind.Good (symlinkdata.held.mean s m)
  unfolding symlinkdata piece_held
  symlinkdata-good m p = (search sattr-good, piece-good s m.symlink_data h k)
