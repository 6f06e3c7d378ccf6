-- Records are written as their fields in order; and the ranges of those that have no constant size.
-- Assumes nothing.
use Rattle.std.specs.Prelude.{◌≡◌, List, ◌++◌, ℕ, ◌+◌, ◌≤◌, length}
use Rattle.std.proofs.Math.Path.{refl}
use Rattle.std.proofs.Common.{sym, ap, ◌∙◌, append_assoc, arith}
use Rattle.std.proofs.Math.ListN.{length-append}
use Rattle.xdr.specs.Meaning.Answer.{most}
use Rattle.nfs.specs.Meaning.Change.{set_mode, set_uid, set_gid, set_size}
use Rattle.nfs.specs.Meaning.Set.{set-atime, atime_cases, set-mtime, mtime_cases, sattr}
use Rattle.xdr.specs.Laws.Optional.{Between}
use Rattle.nfs.specs.Laws.Change.{set-mode-between, set-uid-between, set-gid-between, set-size-between}
use Rattle.nfs.specs.Laws.Write.{Timed, time-between}
use Rattle.nfs.specs.declared.set.sattr3.{sattr3}
use Rattle.nfs.specs.declared.change.set_mode3.{set_mode3}
use Rattle.nfs.specs.declared.change.set_uid3.{set_uid3}
use Rattle.nfs.specs.declared.change.set_gid3.{set_gid3}
use Rattle.nfs.specs.declared.change.set_size3.{set_size3}
use Rattle.nfs.specs.declared.set.set_atime.{set_atime}
use Rattle.nfs.specs.declared.set.set_mtime.{set_mtime}

pub set-atime-timed : Timed atime_cases set-atime
unfolding set-atime
set-atime-timed = record { is = refl }

pub set-mtime-timed : Timed mtime_cases set-mtime
unfolding set-mtime
set-mtime-timed = record { is = refl }

pub set-atime-between : (v : set_atime) → Between 4 12 (length (set-atime.kind.write v))
unfolding set-atime
set-atime-between v = time-between atime_cases v

pub set-mtime-between : (v : set_mtime) → Between 4 12 (length (set-mtime.kind.write v))
unfolding set-mtime
set-mtime-between v = time-between mtime_cases v

pub set-atime-small : (v : set_atime) → length (set-atime.kind.write v) ≤ most
set-atime-small v = omega (arith, set-atime-between v)

pub set-mtime-small : (v : set_mtime) → length (set-mtime.kind.write v) ≤ most
set-mtime-small v = omega (arith, set-mtime-between v)

-- sattr3, in two halves
module _ (mode : set_mode3) (uid : set_uid3) (gid : set_gid3) where
  unfoldable pub owner_bytes : List ℕ
  owner_bytes = (set_mode.kind.write mode ++ set_uid.kind.write uid) ++ set_gid.kind.write gid

  pub owner-bytes : (set_mode.kind.write mode ++ set_uid.kind.write uid) ++ set_gid.kind.write gid ≡ owner_bytes
  unfolding owner_bytes
  owner-bytes = refl

  pub owner-length : length owner_bytes ≡ length (set_mode.kind.write mode) + length (set_uid.kind.write uid) + length (set_gid.kind.write gid)
  unfolding owner_bytes
  owner-length = simp length-append

  pub owner-between : Between 12 24 (length owner_bytes)
  owner-between =
      let a = set-mode-between mode in
      let b = set-uid-between uid in
      let c = set-gid-between gid in
      record { least = omega (arith, owner-length); greatest = omega (arith, owner-length) }

  pub owner-size : (a b c : ℕ) → a ≡ length (set_mode.kind.write mode) → b ≡ length (set_uid.kind.write uid) → c ≡ length (set_gid.kind.write gid) → a + b + c ≡ length owner_bytes
  owner-size a b c e f g = omega (arith, owner-length)

  pub owner-small : length owner_bytes ≤ most
  owner-small = omega (arith, owner-between)

module _ (size : set_size3) (atime : set_atime) (mtime : set_mtime) where
  unfoldable pub change_bytes : List ℕ
  change_bytes = (set_size.kind.write size ++ set-atime.kind.write atime) ++ set-mtime.kind.write mtime

  pub change-bytes : (set_size.kind.write size ++ set-atime.kind.write atime) ++ set-mtime.kind.write mtime ≡ change_bytes
  unfolding change_bytes
  change-bytes = refl

  pub change-length : length change_bytes
      ≡ length (set_size.kind.write size) + length (set-atime.kind.write atime) + length (set-mtime.kind.write mtime)
  unfolding change_bytes
  change-length = simp length-append

  pub change-between : Between 12 36 (length change_bytes)
  change-between =
      let a = set-size-between size in
      let b = set-atime-between atime in
      let c = set-mtime-between mtime in
      record { least = omega (arith, change-length); greatest = omega (arith, change-length) }

  pub change-size : (a b c : ℕ) → a ≡ length (set_size.kind.write size) → b ≡ length (set-atime.kind.write atime) → c ≡ length (set-mtime.kind.write mtime)
      → a + b + c ≡ length change_bytes
  change-size a b c e f g = omega (arith, change-length)

  pub change-small : length change_bytes ≤ most
  change-small = omega (arith, change-between)

pub sattr-bytes : (m : sattr3) → owner_bytes m.mode m.uid m.gid ++ change_bytes m.size m.atime m.mtime ≡ sattr.kind.write m
unfolding sattr owner_bytes change_bytes
sattr-bytes m = simp append_assoc

pub sattr-length : (m : sattr3)
    → length (sattr.kind.write m) ≡ length (owner_bytes m.mode m.uid m.gid) + length (change_bytes m.size m.atime m.mtime)
sattr-length m =
    ap length (sym (sattr-bytes m)) ∙ length-append (owner_bytes m.mode m.uid m.gid) (change_bytes m.size m.atime m.mtime)

pub sattr-between : (m : sattr3) → Between 24 60 (length (sattr.kind.write m))
sattr-between m =
    let a = owner-between m.mode m.uid m.gid in
    let b = change-between m.size m.atime m.mtime in
    record { least = omega (arith, sattr-length m); greatest = omega (arith, sattr-length m) }

pub sattr-size : (a b : ℕ) (m : sattr3) → a ≡ length (owner_bytes m.mode m.uid m.gid) → b ≡ length (change_bytes m.size m.atime m.mtime)
    → a + b ≡ length (sattr.kind.write m)
sattr-size a b m e f = omega (arith, sattr-length m)

pub sattr-small : (m : sattr3) → length (sattr.kind.write m) ≤ most
sattr-small m = omega (arith, sattr-between m)
