-- made by tools/generate from crates/nfsfile/rfc/lookup.x
-- Ranges: every value of a declared type means a message in range.
-- Assumes nothing.
use mathlib.Core.Option.{none, some}
use mathlib.Core.List.{List}
use Prim.Native.Nat.{ℕ, ◌≤◌}
use lib.ListN.{length}
use mir.Val.{Val}
use denote.Laws.{Is}
use Rattle.xdr.specs.Meaning.Answer.{most}
use Rattle.xdr.specs.Meaning.Bytes.{Bytes}
use Rattle.xdr.specs.Meaning.Formats.{piece_held}
use Rattle.nfs.proofs.DirRanges.{diropargs-good, nfs-fh-good}
use Rattle.nfsattr.proofs.Ranges.{post-op-attr-good, nfsstat-good}
use Rattle.nfsattr.specs.Meaning.Stat.{status_for}
use Rattle.nfsfile.specs.Meaning.Lookup.{lookup_resfail, lookup_args, lookup_resok, lookup_res}
use Rattle.nfsfile.specs.declared.lookup.LOOKUP3args.{LOOKUP3args}
use Rattle.nfsfile.specs.declared.lookup.LOOKUP3res.{LOOKUP3res}
use Rattle.nfsfile.specs.declared.lookup.LOOKUP3resfail.{LOOKUP3resfail}
use Rattle.nfsfile.specs.declared.lookup.LOOKUP3resok.{LOOKUP3resok}
use Rattle.nfsfile.specs.declared.lookup.LOOKUP3res.TheVariants as lookupResIs
use Rattle.nfsfile.specs.contracts.lookup.LOOKUP3args as lookup3args·
use Rattle.nfsfile.specs.contracts.lookup.LOOKUP3resok as lookup3resok·
use Rattle.nfsfile.specs.contracts.lookup.LOOKUP3resfail as lookup3resfail·
use Rattle.nfsfile.specs.contracts.lookup.LOOKUP3res as lookup3res·

pub lookup-resfail-good : (m : LOOKUP3resfail) {vs : List Val} → Is lookup3resfail·.the_row m vs → lookup_resfail.kind.Good m
unfolding lookup_resfail
lookup-resfail-good m p = search (post-op-attr-good)

module _ (s : List ℕ) (h : Bytes s) (k : length s ≤ most) where
  pub lookup-args-good : (m : LOOKUP3args) {vs : List Val} → Is lookup3args·.the_row m vs → lookup_args.codec.kind.Good (lookup_args.held.mean s m)
  unfolding lookup_args piece_held
  lookup-args-good m p = search (diropargs-good s h k)

  pub lookup-resok-good : (m : LOOKUP3resok) {vs : List Val} → Is lookup3resok·.the_row m vs → lookup_resok.codec.kind.Good (lookup_resok.held.mean s m)
  unfolding lookup_resok piece_held
  lookup-resok-good m p = (search (nfs-fh-good s h k), (search post-op-attr-good, search post-op-attr-good))

  pub lookup-res-good : (m : LOOKUP3res) {vs : List Val} → Is lookup3res·.the_row m vs → lookup_res.codec.kind.Good (lookup_res.held.mean s m)
  unfolding lookup_res piece_held
  lookup-res-good (lookupResIs.NFS3_OK f) p = (nfsstat-good (status_for none), search lookup-resok-good)
  lookup-res-good (lookupResIs.Failed e f) p = (nfsstat-good (status_for (some e)), search lookup-resfail-good)
