-- made by tools/generate from crates/nfsdata/rfc/read.x
-- Ranges: every value of a declared type means a message in range.
-- Assumes nothing.
use mathlib.Core.Option.{none, some}
use mathlib.Core.List.{List}
use Prim.Native.Nat.{ℕ, ◌≤◌}
use lib.ListN.{length}
use mir.Val.{Val}
use denote.Laws.{Is}
use Rattle.xdr.specs.Meaning.Answer.{most}
use Rattle.xdr.specs.Meaning.Bytes.{Bytes}
use Rattle.xdr.specs.Meaning.Formats.{piece_held}
use Rattle.xdr.specs.Laws.Pieces.{piece-good}
use Rattle.xdr.specs.Laws.Ranges.{hyper-good, word_good, flag-good}
use Rattle.nfs.proofs.DirRanges.{nfs-fh-good}
use Rattle.nfsattr.proofs.Ranges.{post-op-attr-good, nfsstat-good}
use Rattle.nfsattr.specs.Meaning.Stat.{status_for}
use Rattle.nfsdata.specs.Meaning.Read.{read_resfail, read_args, read_resok, read_res}
use Rattle.nfsdata.specs.declared.read.READ3args.{READ3args}
use Rattle.nfsdata.specs.declared.read.READ3res.{READ3res}
use Rattle.nfsdata.specs.declared.read.READ3resfail.{READ3resfail}
use Rattle.nfsdata.specs.declared.read.READ3resok.{READ3resok}
use Rattle.nfsdata.specs.declared.read.READ3res.TheVariants as readResIs
use Rattle.nfsdata.specs.contracts.read.READ3args as read3args·
use Rattle.nfsdata.specs.contracts.read.READ3resok as read3resok·
use Rattle.nfsdata.specs.contracts.read.READ3resfail as read3resfail·
use Rattle.nfsdata.specs.contracts.read.READ3res as read3res·

pub read-resfail-good : (m : READ3resfail) {vs : List Val} → Is read3resfail·.the_row m vs → read_resfail.kind.Good m
unfolding read_resfail
read-resfail-good m p = search (post-op-attr-good)

module _ (s : List ℕ) (h : Bytes s) (k : length s ≤ most) where
  pub read-args-good : (m : READ3args) {vs : List Val} → Is read3args·.the_row m vs → read_args.codec.kind.Good (read_args.held.mean s m)
  unfolding read_args piece_held
  read-args-good m p = (search (nfs-fh-good s h k), (search hyper-good, search word_good))

  pub read-resok-good : (m : READ3resok) {vs : List Val} → Is read3resok·.the_row m vs → read_resok.codec.kind.Good (read_resok.held.mean s m)
  unfolding read_resok piece_held
  read-resok-good m p = (search post-op-attr-good, (search word_good, (search flag-good, piece-good s m.«data» h k)))

  pub read-res-good : (m : READ3res) {vs : List Val} → Is read3res·.the_row m vs → read_res.codec.kind.Good (read_res.held.mean s m)
  unfolding read_res piece_held
  read-res-good (readResIs.NFS3_OK f) p = (nfsstat-good (status_for none), search read-resok-good)
  read-res-good (readResIs.Failed e f) p = (nfsstat-good (status_for (some e)), search read-resfail-good)
