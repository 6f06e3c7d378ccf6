-- made by tools/generate from crates/nfsfile/rfc/getattr.x
-- GETATTR: the attributes of a file (RFC 1813, section 3.3.1).
-- Assumes nothing.
use Rattle.std.specs.Prelude.{refl, ◌≡◌}
use Rattle.xdr.specs.Meaning.Kind.{Codec}
use Rattle.xdr.specs.Meaning.Codecs.{mapped, void}
use Rattle.xdr.specs.Meaning.Format.{Renaming, Format, named, exactly}
use Rattle.xdr.specs.Meaning.Status.{Result, ok, failed, Arms, on_status}
use Rattle.nfs.specs.Meaning.Dir.{NfsFh, nfs_fh}
use Rattle.nfs.specs.declared.dir.nfs_fh3.{nfs_fh3}
use Rattle.nfsattr.specs.Meaning.Attr.{fattr}
use Rattle.nfsattr.specs.Meaning.Stat.{nfsstat, success_or}
use Rattle.nfsattr.specs.declared.stat.nfsfail3.{nfsfail3}
use Rattle.nfsfile.specs.declared.getattr.GETATTR3args.{GETATTR3args}
use Rattle.nfsfile.specs.declared.getattr.GETATTR3res.{GETATTR3res}
use Rattle.nfsfile.specs.declared.getattr.GETATTR3resok.{GETATTR3resok}
use Rattle.nfsfile.specs.declared.getattr.GETATTR3res.TheVariants as getattrResIs

-- GETATTR3args
pub record GetattrArgs : Type 0 where
  pub object : NfsFh

abbrev pub getattr_args_names : Renaming NfsFh GetattrArgs nfs_fh3 GETATTR3args
getattr_args_names =
    record {
      to = λ x. record { object = x };
      from = λ m. m.object;
      from_to = λ x. refl;
      to_from = λ m. refl;
      hold = λ y. record { object = y };
      pieces = λ y. y.object;
      pieces_hold = λ y. refl;
    }

unfoldable pub getattr_args : Format GetattrArgs GETATTR3args
getattr_args = named nfs_fh getattr_args_names

-- GETATTR3resok
unfoldable pub getattr_resok : Codec GETATTR3resok
getattr_resok = mapped (fattr) (λ x. record { obj_attributes = x }) (λ m. m.obj_attributes) (λ x. refl) (λ m. refl)

-- GETATTR3res
abbrev pub getattr_res_to : Result nfsfail3 GETATTR3resok (Unit {0}) → GETATTR3res
getattr_res_to (ok f) = getattrResIs.NFS3_OK f
getattr_res_to (failed e u) = getattrResIs.Failed e

abbrev pub getattr_res_from : GETATTR3res → Result nfsfail3 GETATTR3resok (Unit {0})
getattr_res_from (getattrResIs.NFS3_OK f) = ok f
getattr_res_from (getattrResIs.Failed e) = failed e tt

pub getattr_res_from_to : (x : Result nfsfail3 GETATTR3resok (Unit {0})) → getattr_res_from (getattr_res_to x) ≡ x
getattr_res_from_to (ok f) = refl
getattr_res_from_to (failed e u) = refl

pub getattr_res_to_from : (y : GETATTR3res) → getattr_res_to (getattr_res_from y) ≡ y
getattr_res_to_from (getattrResIs.NFS3_OK f) = refl
getattr_res_to_from (getattrResIs.Failed e) = refl

abbrev pub getattr_res_arms : Arms nfsfail3 GETATTR3resok (Unit {0}) GETATTR3res
getattr_res_arms = record { to = getattr_res_to; from = getattr_res_from; from_to = getattr_res_from_to; to_from = getattr_res_to_from }

unfoldable pub getattr_res : Format (Result nfsfail3 GETATTR3resok (Unit {0})) GETATTR3res
getattr_res = on_status nfsstat success_or (exactly getattr_resok) (exactly void) getattr_res_arms
