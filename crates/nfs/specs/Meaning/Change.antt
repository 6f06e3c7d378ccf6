-- made by tools/generate from crates/nfs/rfc/change.x
-- What a call may change of a file, number by number (RFC 1813, section 2.6).
-- Assumes nothing.
use Rattle.std.specs.Prelude.{◌≡◌, refl, ℕ}
use Rattle.std.proofs.Math.Option.{Option, none, some}
use Rattle.xdr.specs.Meaning.Kind.{Codec}
use Rattle.xdr.specs.Meaning.Items.{word, hyper}
use Rattle.xdr.specs.Meaning.Cases.{Cases, maybe}
use Rattle.nfs.specs.declared.change.set_gid3.{set_gid3}
use Rattle.nfs.specs.declared.change.set_mode3.{set_mode3}
use Rattle.nfs.specs.declared.change.set_size3.{set_size3}
use Rattle.nfs.specs.declared.change.set_uid3.{set_uid3}
use Rattle.nfs.specs.declared.change.set_mode3.TheVariants as setModeIs
use Rattle.nfs.specs.declared.change.set_uid3.TheVariants as setUidIs
use Rattle.nfs.specs.declared.change.set_gid3.TheVariants as setGidIs
use Rattle.nfs.specs.declared.change.set_size3.TheVariants as setSizeIs

-- set_mode3
abbrev pub set_mode_to : Option ℕ → set_mode3
set_mode_to none = setModeIs.Void
set_mode_to (some f) = setModeIs.mode f

abbrev pub set_mode_from : set_mode3 → Option ℕ
set_mode_from setModeIs.Void = none
set_mode_from (setModeIs.mode f) = some f

pub set_mode_from_to : (x : Option ℕ) → set_mode_from (set_mode_to x) ≡ x
set_mode_from_to none = refl
set_mode_from_to (some f) = refl

pub set_mode_to_from : (y : set_mode3) → set_mode_to (set_mode_from y) ≡ y
set_mode_to_from setModeIs.Void = refl
set_mode_to_from (setModeIs.mode f) = refl

abbrev pub set_mode_cases : Cases ℕ set_mode3
set_mode_cases = record { to = set_mode_to; from = set_mode_from; from_to = set_mode_from_to; to_from = set_mode_to_from }

unfoldable pub set_mode : Codec set_mode3
set_mode = maybe word set_mode_cases

-- set_uid3
abbrev pub set_uid_to : Option ℕ → set_uid3
set_uid_to none = setUidIs.Void
set_uid_to (some f) = setUidIs.uid f

abbrev pub set_uid_from : set_uid3 → Option ℕ
set_uid_from setUidIs.Void = none
set_uid_from (setUidIs.uid f) = some f

pub set_uid_from_to : (x : Option ℕ) → set_uid_from (set_uid_to x) ≡ x
set_uid_from_to none = refl
set_uid_from_to (some f) = refl

pub set_uid_to_from : (y : set_uid3) → set_uid_to (set_uid_from y) ≡ y
set_uid_to_from setUidIs.Void = refl
set_uid_to_from (setUidIs.uid f) = refl

abbrev pub set_uid_cases : Cases ℕ set_uid3
set_uid_cases = record { to = set_uid_to; from = set_uid_from; from_to = set_uid_from_to; to_from = set_uid_to_from }

unfoldable pub set_uid : Codec set_uid3
set_uid = maybe word set_uid_cases

-- set_gid3
abbrev pub set_gid_to : Option ℕ → set_gid3
set_gid_to none = setGidIs.Void
set_gid_to (some f) = setGidIs.gid f

abbrev pub set_gid_from : set_gid3 → Option ℕ
set_gid_from setGidIs.Void = none
set_gid_from (setGidIs.gid f) = some f

pub set_gid_from_to : (x : Option ℕ) → set_gid_from (set_gid_to x) ≡ x
set_gid_from_to none = refl
set_gid_from_to (some f) = refl

pub set_gid_to_from : (y : set_gid3) → set_gid_to (set_gid_from y) ≡ y
set_gid_to_from setGidIs.Void = refl
set_gid_to_from (setGidIs.gid f) = refl

abbrev pub set_gid_cases : Cases ℕ set_gid3
set_gid_cases = record { to = set_gid_to; from = set_gid_from; from_to = set_gid_from_to; to_from = set_gid_to_from }

unfoldable pub set_gid : Codec set_gid3
set_gid = maybe word set_gid_cases

-- set_size3
abbrev pub set_size_to : Option ℕ → set_size3
set_size_to none = setSizeIs.Void
set_size_to (some f) = setSizeIs.size f

abbrev pub set_size_from : set_size3 → Option ℕ
set_size_from setSizeIs.Void = none
set_size_from (setSizeIs.size f) = some f

pub set_size_from_to : (x : Option ℕ) → set_size_from (set_size_to x) ≡ x
set_size_from_to none = refl
set_size_from_to (some f) = refl

pub set_size_to_from : (y : set_size3) → set_size_to (set_size_from y) ≡ y
set_size_to_from setSizeIs.Void = refl
set_size_to_from (setSizeIs.size f) = refl

abbrev pub set_size_cases : Cases ℕ set_size3
set_size_cases = record { to = set_size_to; from = set_size_from; from_to = set_size_from_to; to_from = set_size_to_from }

unfoldable pub set_size : Codec set_size3
set_size = maybe hyper set_size_cases
