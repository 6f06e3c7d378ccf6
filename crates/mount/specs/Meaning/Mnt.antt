-- made by tools/generate from crates/mount/rfc/mnt.x
-- MNT: the handle of a directory that is to be mounted (RFC 1813, sections 5.1.5 and 5.2.1, in appendix I).
-- Assumes nothing.
use Rattle.std.specs.Prelude.{◌≡◌, refl, List, ◌∷◌, [], ℕ}
use Rattle.std.proofs.Math.Option.{Option, none, some}
use Rattle.xdr.specs.Meaning.Kind.{Codec}
use Rattle.xdr.specs.Meaning.Combinators.{among, means}
use Rattle.xdr.specs.Meaning.Codecs.{void}
use Rattle.xdr.specs.Meaning.Items.{closed}
use Rattle.xdr.specs.Meaning.Format.{Renaming, Format, named, ◌⨟◌, exactly}
use Rattle.xdr.specs.Meaning.Formats.{bytes, word_list}
use Rattle.xdr.specs.Meaning.Status.{Status, Result, ok, failed, Arms, on_status}
use Rattle.xdr.specs.declared.piece.Piece.{Piece}
use Rattle.mount.specs.declared.mnt.mountfail3.{mountfail3}
use Rattle.mount.specs.declared.mnt.mountres3.{mountres3}
use Rattle.mount.specs.declared.mnt.mountres3_ok.{mountres3_ok}
use Rattle.mount.specs.declared.mnt.mountstat3.{mountstat3}
use Rattle.mount.specs.declared.mnt.mountstat3.TheVariants as mountstatIs
use Rattle.mount.specs.declared.mnt.mountfail3.TheVariants as mountfailIs
use Rattle.mount.specs.declared.mnt.mountres3.TheVariants as mountresIs

-- mountstat3
abbrev pub mountstat_number : mountstat3 → ℕ
mountstat_number mountstatIs.MNT3_OK = 0
mountstat_number (mountstatIs.Failed mountfailIs.MNT3ERR_PERM) = 1
mountstat_number (mountstatIs.Failed mountfailIs.MNT3ERR_NOENT) = 2
mountstat_number (mountstatIs.Failed mountfailIs.MNT3ERR_IO) = 5
mountstat_number (mountstatIs.Failed mountfailIs.MNT3ERR_ACCES) = 13
mountstat_number (mountstatIs.Failed mountfailIs.MNT3ERR_NOTDIR) = 20
mountstat_number (mountstatIs.Failed mountfailIs.MNT3ERR_INVAL) = 22
mountstat_number (mountstatIs.Failed mountfailIs.MNT3ERR_NAMETOOLONG) = 63
mountstat_number (mountstatIs.Failed mountfailIs.MNT3ERR_NOTSUPP) = 10004
mountstat_number (mountstatIs.Failed mountfailIs.MNT3ERR_SERVERFAULT) = 10006

abbrev pub mountstat_all : List mountstat3
mountstat_all = mountstatIs.MNT3_OK ∷ mountstatIs.Failed mountfailIs.MNT3ERR_PERM ∷ mountstatIs.Failed mountfailIs.MNT3ERR_NOENT ∷ mountstatIs.Failed mountfailIs.MNT3ERR_IO ∷ mountstatIs.Failed mountfailIs.MNT3ERR_ACCES ∷ mountstatIs.Failed mountfailIs.MNT3ERR_NOTDIR ∷ mountstatIs.Failed mountfailIs.MNT3ERR_INVAL ∷ mountstatIs.Failed mountfailIs.MNT3ERR_NAMETOOLONG ∷ mountstatIs.Failed mountfailIs.MNT3ERR_NOTSUPP ∷ mountstatIs.Failed mountfailIs.MNT3ERR_SERVERFAULT ∷ []

pub each_mountstat : (a : mountstat3) → among mountstat_number mountstat_all (mountstat_number a) ≡ means a []
each_mountstat mountstatIs.MNT3_OK = refl
each_mountstat (mountstatIs.Failed mountfailIs.MNT3ERR_PERM) = refl
each_mountstat (mountstatIs.Failed mountfailIs.MNT3ERR_NOENT) = refl
each_mountstat (mountstatIs.Failed mountfailIs.MNT3ERR_IO) = refl
each_mountstat (mountstatIs.Failed mountfailIs.MNT3ERR_ACCES) = refl
each_mountstat (mountstatIs.Failed mountfailIs.MNT3ERR_NOTDIR) = refl
each_mountstat (mountstatIs.Failed mountfailIs.MNT3ERR_INVAL) = refl
each_mountstat (mountstatIs.Failed mountfailIs.MNT3ERR_NAMETOOLONG) = refl
each_mountstat (mountstatIs.Failed mountfailIs.MNT3ERR_NOTSUPP) = refl
each_mountstat (mountstatIs.Failed mountfailIs.MNT3ERR_SERVERFAULT) = refl

unfoldable pub mountstat : Codec mountstat3
mountstat = closed mountstat_number mountstat_all each_mountstat

abbrev pub mountfail_number : mountfail3 → ℕ
mountfail_number f = mountstat_number (mountstatIs.Failed f)

-- success, or a failure: what a result is by its status
abbrev pub mountstat_failure : mountstat3 → Option mountfail3
mountstat_failure mountstatIs.MNT3_OK = none
mountstat_failure (mountstatIs.Failed f) = some f

abbrev pub mountstat_for : Option mountfail3 → mountstat3
mountstat_for none = mountstatIs.MNT3_OK
mountstat_for (some f) = mountstatIs.Failed f

pub mountstat_to_of : (a : mountstat3) → mountstat_for (mountstat_failure a) ≡ a
mountstat_to_of mountstatIs.MNT3_OK = refl
mountstat_to_of (mountstatIs.Failed f) = refl

pub mountstat_of_to : (o : Option mountfail3) → mountstat_failure (mountstat_for o) ≡ o
mountstat_of_to none = refl
mountstat_of_to (some f) = refl

abbrev pub mountstat_or : Status mountstat3 mountfail3
mountstat_or = record { of = mountstat_failure; to = mountstat_for; to_of = mountstat_to_of; of_to = mountstat_of_to }

-- mountres3_ok
pub record MountresOk : Type 0 where
  pub fhandle : List ℕ
  pub auth_flavors : List ℕ

abbrev pub mountres_ok_names : Renaming ((List ℕ) × List ℕ) MountresOk (Piece × Piece) mountres3_ok
mountres_ok_names =
    record {
      to = λ x. record { fhandle = x.0; auth_flavors = x.1 };
      from = λ m. (m.fhandle, m.auth_flavors);
      from_to = λ x. refl;
      to_from = λ m. refl;
      hold = λ y. record { fhandle = y.0; auth_flavors = y.1 };
      pieces = λ y. (y.fhandle, y.auth_flavors);
      pieces_hold = λ y. refl;
    }

unfoldable pub mountres_ok : Format MountresOk mountres3_ok
mountres_ok = named (bytes ⨟ word_list) mountres_ok_names

-- mountres3
abbrev pub mountres_to : Result mountfail3 mountres3_ok (Unit {0}) → mountres3
mountres_to (ok f) = mountresIs.MNT3_OK f
mountres_to (failed e u) = mountresIs.Failed e

abbrev pub mountres_from : mountres3 → Result mountfail3 mountres3_ok (Unit {0})
mountres_from (mountresIs.MNT3_OK f) = ok f
mountres_from (mountresIs.Failed e) = failed e tt

pub mountres_from_to : (x : Result mountfail3 mountres3_ok (Unit {0})) → mountres_from (mountres_to x) ≡ x
mountres_from_to (ok f) = refl
mountres_from_to (failed e u) = refl

pub mountres_to_from : (y : mountres3) → mountres_to (mountres_from y) ≡ y
mountres_to_from (mountresIs.MNT3_OK f) = refl
mountres_to_from (mountresIs.Failed e) = refl

abbrev pub mountres_arms : Arms mountfail3 mountres3_ok (Unit {0}) mountres3
mountres_arms = record { to = mountres_to; from = mountres_from; from_to = mountres_from_to; to_from = mountres_to_from }

unfoldable pub mountres : Format (Result mountfail3 MountresOk (Unit {0})) mountres3
mountres = on_status mountstat mountstat_or mountres_ok (exactly void) mountres_arms
