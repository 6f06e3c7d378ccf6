-- made by tools/generate from crates/nfsfile/rfc/setattr.x
-- Ranges: every value of a declared type means a message in range.
-- Assumes nothing.
use mathlib.Core.Option.{none, some}
use mathlib.Core.List.{List}
use Prim.Native.Nat.{ℕ, ◌≤◌}
use lib.ListN.{length}
use mir.Val.{Val}
use denote.Laws.{Is}
use Rattle.xdr.specs.Meaning.Answer.{most}
use Rattle.xdr.specs.Meaning.Bytes.{Bytes}
use Rattle.xdr.specs.Meaning.Formats.{piece_held}
use Rattle.xdr.specs.Laws.Ranges.{flag-good}
use Rattle.nfs.proofs.DirRanges.{nfs-fh-good}
use Rattle.nfs.proofs.Ranges.{sattr-good}
use Rattle.nfsattr.proofs.Ranges.{nfstime-good, wcc-data-good, nfsstat-good}
use Rattle.nfsattr.specs.Meaning.Stat.{status_for}
use Rattle.nfsfile.specs.Meaning.Setattr.{sattrguard, setattr_resok, setattr_resfail, setattr_args, setattr_res}
use Rattle.nfsfile.specs.declared.setattr.SETATTR3args.{SETATTR3args}
use Rattle.nfsfile.specs.declared.setattr.SETATTR3res.{SETATTR3res}
use Rattle.nfsfile.specs.declared.setattr.SETATTR3resfail.{SETATTR3resfail}
use Rattle.nfsfile.specs.declared.setattr.SETATTR3resok.{SETATTR3resok}
use Rattle.nfsfile.specs.declared.setattr.sattrguard3.{sattrguard3}
use Rattle.nfsfile.specs.declared.setattr.sattrguard3.TheVariants as sattrguardIs
use Rattle.nfsfile.specs.declared.setattr.SETATTR3res.TheVariants as setattrResIs
use Rattle.nfsfile.specs.contracts.setattr.sattrguard3 as sattrguard3·
use Rattle.nfsfile.specs.contracts.setattr.SETATTR3args as setattr3args·
use Rattle.nfsfile.specs.contracts.setattr.SETATTR3resok as setattr3resok·
use Rattle.nfsfile.specs.contracts.setattr.SETATTR3resfail as setattr3resfail·
use Rattle.nfsfile.specs.contracts.setattr.SETATTR3res as setattr3res·

pub sattrguard-good : (m : sattrguard3) {vs : List Val} → Is sattrguard3·.the_row m vs → sattrguard.kind.Good m
unfolding sattrguard
sattrguard-good sattrguardIs.Void p = search flag-good
sattrguard-good (sattrguardIs.obj_ctime f) p = search (flag-good, nfstime-good)

pub setattr-resok-good : (m : SETATTR3resok) {vs : List Val} → Is setattr3resok·.the_row m vs → setattr_resok.kind.Good m
unfolding setattr_resok
setattr-resok-good m p = search (wcc-data-good)

pub setattr-resfail-good : (m : SETATTR3resfail) {vs : List Val} → Is setattr3resfail·.the_row m vs → setattr_resfail.kind.Good m
unfolding setattr_resfail
setattr-resfail-good m p = search (wcc-data-good)

module _ (s : List ℕ) (h : Bytes s) (k : length s ≤ most) where
  pub setattr-args-good : (m : SETATTR3args) {vs : List Val} → Is setattr3args·.the_row m vs → setattr_args.codec.kind.Good (setattr_args.held.mean s m)
  unfolding setattr_args piece_held
  setattr-args-good m p = (search (nfs-fh-good s h k), (search sattr-good, search sattrguard-good))

  pub setattr-res-good : (m : SETATTR3res) {vs : List Val} → Is setattr3res·.the_row m vs → setattr_res.codec.kind.Good (setattr_res.held.mean s m)
  unfolding setattr_res piece_held
  setattr-res-good (setattrResIs.NFS3_OK f) p = (nfsstat-good (status_for none), search setattr-resok-good)
  setattr-res-good (setattrResIs.Failed e f) p = (nfsstat-good (status_for (some e)), search setattr-resfail-good)
