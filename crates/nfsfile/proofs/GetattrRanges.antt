-- made by tools/generate from crates/nfsfile/rfc/getattr.x
-- Ranges: every value of a declared type means a message in range.
-- Assumes nothing.
use mathlib.Core.Option.{none, some}
use mathlib.Core.List.{List}
use Prim.Native.Nat.{ℕ, ◌≤◌}
use lib.ListN.{length}
use mir.Val.{Val}
use denote.Laws.{Is}
use Rattle.xdr.specs.Meaning.Answer.{most}
use Rattle.xdr.specs.Meaning.Bytes.{Bytes}
use Rattle.xdr.specs.Meaning.Formats.{piece_held}
use Rattle.nfs.proofs.DirRanges.{nfs-fh-good}
use Rattle.nfsattr.proofs.Ranges.{fattr-good, nfsstat-good}
use Rattle.nfsattr.specs.Meaning.Stat.{status_for}
use Rattle.nfsfile.specs.Meaning.Getattr.{getattr_resok, getattr_args, getattr_res}
use Rattle.nfsfile.specs.declared.getattr.GETATTR3args.{GETATTR3args}
use Rattle.nfsfile.specs.declared.getattr.GETATTR3res.{GETATTR3res}
use Rattle.nfsfile.specs.declared.getattr.GETATTR3resok.{GETATTR3resok}
use Rattle.nfsfile.specs.declared.getattr.GETATTR3res.TheVariants as getattrResIs
use Rattle.nfsfile.specs.contracts.getattr.GETATTR3args as getattr3args·
use Rattle.nfsfile.specs.contracts.getattr.GETATTR3resok as getattr3resok·
use Rattle.nfsfile.specs.contracts.getattr.GETATTR3res as getattr3res·

pub getattr-resok-good : (m : GETATTR3resok) {vs : List Val} → Is getattr3resok·.the_row m vs → getattr_resok.kind.Good m
unfolding getattr_resok
getattr-resok-good m p = search (fattr-good)

module _ (s : List ℕ) (h : Bytes s) (k : length s ≤ most) where
  pub getattr-args-good : (m : GETATTR3args) {vs : List Val} → Is getattr3args·.the_row m vs → getattr_args.codec.kind.Good (getattr_args.held.mean s m)
  unfolding getattr_args piece_held
  getattr-args-good m p = search (nfs-fh-good s h k)

  pub getattr-res-good : (m : GETATTR3res) {vs : List Val} → Is getattr3res·.the_row m vs → getattr_res.codec.kind.Good (getattr_res.held.mean s m)
  unfolding getattr_res piece_held
  getattr-res-good (getattrResIs.NFS3_OK f) p = (nfsstat-good (status_for none), search getattr-resok-good)
  getattr-res-good (getattrResIs.Failed e) p = (nfsstat-good (status_for (some e)), tt)
