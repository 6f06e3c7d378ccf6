-- made by tools/generate from crates/nfsdata/rfc/write.x
-- Ranges: every value of a declared type means a message in range.
-- Assumes nothing.
use mathlib.Core.Option.{none, some}
use mathlib.Core.List.{List}
use Prim.Native.Nat.{ℕ, ◌≤◌}
use native.Mathlib.Omega.{arith}
use lib.ListN.{length}
use mir.Val.{Val}
use denote.Laws.{Is}
use Rattle.xdr.specs.Meaning.Answer.{most}
use Rattle.xdr.specs.Meaning.Bytes.{Bytes}
use Rattle.xdr.specs.Meaning.Formats.{piece_held}
use Rattle.xdr.specs.Laws.Pieces.{piece-good}
use Rattle.xdr.specs.Laws.Ranges.{word_good, hyper-good}
use Rattle.nfs.proofs.DirRanges.{nfs-fh-good}
use Rattle.nfsattr.proofs.Ranges.{wcc-data-good, nfsstat-good}
use Rattle.nfsattr.specs.Meaning.Stat.{status_for}
use Rattle.nfsdata.specs.Meaning.Write.{stable-how, write_resok, write_resfail, write_args, write_res}
use Rattle.nfsdata.specs.declared.write.WRITE3args.{WRITE3args}
use Rattle.nfsdata.specs.declared.write.WRITE3res.{WRITE3res}
use Rattle.nfsdata.specs.declared.write.WRITE3resfail.{WRITE3resfail}
use Rattle.nfsdata.specs.declared.write.WRITE3resok.{WRITE3resok}
use Rattle.nfsdata.specs.declared.write.stable_how.{stable_how}
use Rattle.nfsdata.specs.declared.write.stable_how.TheVariants as stableHowIs
use Rattle.nfsdata.specs.declared.write.WRITE3res.TheVariants as writeResIs
use Rattle.nfsdata.specs.contracts.write.WRITE3args as write3args·
use Rattle.nfsdata.specs.contracts.write.WRITE3resok as write3resok·
use Rattle.nfsdata.specs.contracts.write.WRITE3resfail as write3resfail·
use Rattle.nfsdata.specs.contracts.write.WRITE3res as write3res·

pub stable-how-good : (a : stable_how) → stable-how.kind.Good a
unfolding stable-how
stable-how-good stableHowIs.UNSTABLE = word_good _ (omega arith)
stable-how-good stableHowIs.DATA_SYNC = word_good _ (omega arith)
stable-how-good stableHowIs.FILE_SYNC = word_good _ (omega arith)

pub write-resok-good : (m : WRITE3resok) {vs : List Val} → Is write3resok·.the_row m vs → write_resok.kind.Good m
unfolding write_resok
write-resok-good m p = search (wcc-data-good, word_good, stable-how-good, hyper-good)

pub write-resfail-good : (m : WRITE3resfail) {vs : List Val} → Is write3resfail·.the_row m vs → write_resfail.kind.Good m
unfolding write_resfail
write-resfail-good m p = search (wcc-data-good)

module _ (s : List ℕ) (h : Bytes s) (k : length s ≤ most) where
  pub write-args-good : (m : WRITE3args) {vs : List Val} → Is write3args·.the_row m vs → write_args.codec.kind.Good (write_args.held.mean s m)
  unfolding write_args piece_held
  write-args-good m p = (search (nfs-fh-good s h k), (search hyper-good, (search word_good, (search stable-how-good, piece-good s m.«data» h k))))

  pub write-res-good : (m : WRITE3res) {vs : List Val} → Is write3res·.the_row m vs → write_res.codec.kind.Good (write_res.held.mean s m)
  unfolding write_res piece_held
  write-res-good (writeResIs.NFS3_OK f) p = (nfsstat-good (status_for none), search write-resok-good)
  write-res-good (writeResIs.Failed e f) p = (nfsstat-good (status_for (some e)), search write-resfail-good)
