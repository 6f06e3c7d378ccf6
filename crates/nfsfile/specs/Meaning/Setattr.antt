-- made by tools/generate from crates/nfsfile/rfc/setattr.x
-- SETATTR: attributes are set, if the guard holds (RFC 1813, section 3.3.2).
-- Assumes nothing.
use Rattle.std.specs.Prelude.{◌≡◌, refl}
use Rattle.std.proofs.Math.Option.{Option, none, some}
use Rattle.xdr.specs.Meaning.Kind.{Codec}
use Rattle.xdr.specs.Meaning.Codecs.{mapped}
use Rattle.xdr.specs.Meaning.Format.{Renaming, Format, named, ◌⨟◌, exactly}
use Rattle.xdr.specs.Meaning.Cases.{Cases, maybe}
use Rattle.xdr.specs.Meaning.Status.{Result, ok, failed, Arms, on_status}
use Rattle.nfs.specs.Meaning.Dir.{NfsFh, nfs_fh}
use Rattle.nfs.specs.Meaning.Set.{sattr}
use Rattle.nfs.specs.declared.dir.nfs_fh3.{nfs_fh3}
use Rattle.nfs.specs.declared.set.sattr3.{sattr3}
use Rattle.nfsattr.specs.Meaning.Attr.{nfstime, wcc-data}
use Rattle.nfsattr.specs.Meaning.Stat.{nfsstat, success_or}
use Rattle.nfsattr.specs.declared.attr.nfstime3.{nfstime3}
use Rattle.nfsattr.specs.declared.stat.nfsfail3.{nfsfail3}
use Rattle.nfsfile.specs.declared.setattr.SETATTR3args.{SETATTR3args}
use Rattle.nfsfile.specs.declared.setattr.SETATTR3res.{SETATTR3res}
use Rattle.nfsfile.specs.declared.setattr.SETATTR3resfail.{SETATTR3resfail}
use Rattle.nfsfile.specs.declared.setattr.SETATTR3resok.{SETATTR3resok}
use Rattle.nfsfile.specs.declared.setattr.sattrguard3.{sattrguard3}
use Rattle.nfsfile.specs.declared.setattr.sattrguard3.TheVariants as sattrguardIs
use Rattle.nfsfile.specs.declared.setattr.SETATTR3res.TheVariants as setattrResIs

-- sattrguard3
abbrev pub sattrguard_to : Option nfstime3 → sattrguard3
sattrguard_to none = sattrguardIs.Void
sattrguard_to (some f) = sattrguardIs.obj_ctime f

abbrev pub sattrguard_from : sattrguard3 → Option nfstime3
sattrguard_from sattrguardIs.Void = none
sattrguard_from (sattrguardIs.obj_ctime f) = some f

pub sattrguard_from_to : (x : Option nfstime3) → sattrguard_from (sattrguard_to x) ≡ x
sattrguard_from_to none = refl
sattrguard_from_to (some f) = refl

pub sattrguard_to_from : (y : sattrguard3) → sattrguard_to (sattrguard_from y) ≡ y
sattrguard_to_from sattrguardIs.Void = refl
sattrguard_to_from (sattrguardIs.obj_ctime f) = refl

abbrev pub sattrguard_cases : Cases nfstime3 sattrguard3
sattrguard_cases = record { to = sattrguard_to; from = sattrguard_from; from_to = sattrguard_from_to; to_from = sattrguard_to_from }

unfoldable pub sattrguard : Codec sattrguard3
sattrguard = maybe nfstime sattrguard_cases

-- SETATTR3args
pub record SetattrArgs : Type 0 where
  pub object : NfsFh
  pub new_attributes : sattr3
  pub guard : sattrguard3

abbrev pub setattr_args_names : Renaming (NfsFh × (sattr3 × sattrguard3)) SetattrArgs (nfs_fh3 × (sattr3 × sattrguard3)) SETATTR3args
setattr_args_names =
    record {
      to = λ x. record { object = x.0; new_attributes = x.1.0; guard = x.1.1 };
      from = λ m. (m.object, (m.new_attributes, m.guard));
      from_to = λ x. refl;
      to_from = λ m. refl;
      hold = λ y. record { object = y.0; new_attributes = y.1.0; guard = y.1.1 };
      pieces = λ y. (y.object, (y.new_attributes, y.guard));
      pieces_hold = λ y. refl;
    }

unfoldable pub setattr_args : Format SetattrArgs SETATTR3args
setattr_args = named (nfs_fh ⨟ exactly sattr ⨟ exactly sattrguard) setattr_args_names

-- SETATTR3resok
unfoldable pub setattr_resok : Codec SETATTR3resok
setattr_resok = mapped (wcc-data) (λ x. record { obj_wcc = x }) (λ m. m.obj_wcc) (λ x. refl) (λ m. refl)

-- SETATTR3resfail
unfoldable pub setattr_resfail : Codec SETATTR3resfail
setattr_resfail = mapped (wcc-data) (λ x. record { obj_wcc = x }) (λ m. m.obj_wcc) (λ x. refl) (λ m. refl)

-- SETATTR3res
abbrev pub setattr_res_to : Result nfsfail3 SETATTR3resok SETATTR3resfail → SETATTR3res
setattr_res_to (ok f) = setattrResIs.NFS3_OK f
setattr_res_to (failed e f) = setattrResIs.Failed e f

abbrev pub setattr_res_from : SETATTR3res → Result nfsfail3 SETATTR3resok SETATTR3resfail
setattr_res_from (setattrResIs.NFS3_OK f) = ok f
setattr_res_from (setattrResIs.Failed e f) = failed e f

pub setattr_res_from_to : (x : Result nfsfail3 SETATTR3resok SETATTR3resfail) → setattr_res_from (setattr_res_to x) ≡ x
setattr_res_from_to (ok f) = refl
setattr_res_from_to (failed e f) = refl

pub setattr_res_to_from : (y : SETATTR3res) → setattr_res_to (setattr_res_from y) ≡ y
setattr_res_to_from (setattrResIs.NFS3_OK f) = refl
setattr_res_to_from (setattrResIs.Failed e f) = refl

abbrev pub setattr_res_arms : Arms nfsfail3 SETATTR3resok SETATTR3resfail SETATTR3res
setattr_res_arms = record { to = setattr_res_to; from = setattr_res_from; from_to = setattr_res_from_to; to_from = setattr_res_to_from }

unfoldable pub setattr_res : Format (Result nfsfail3 SETATTR3resok SETATTR3resfail) SETATTR3res
setattr_res = on_status nfsstat success_or (exactly setattr_resok) (exactly setattr_resfail) setattr_res_arms
