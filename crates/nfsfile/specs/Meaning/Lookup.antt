-- made by tools/generate from crates/nfsfile/rfc/lookup.x
-- LOOKUP: the handle of a name in a directory (RFC 1813, section 3.3.3).
-- Assumes nothing.
use Rattle.std.specs.Prelude.{refl, ◌≡◌}
use Rattle.xdr.specs.Meaning.Kind.{Codec}
use Rattle.xdr.specs.Meaning.Codecs.{mapped}
use Rattle.xdr.specs.Meaning.Format.{Renaming, Format, named, ◌⨟◌, exactly}
use Rattle.xdr.specs.Meaning.Status.{Result, ok, failed, Arms, on_status}
use Rattle.nfs.specs.Meaning.Dir.{Diropargs, diropargs, NfsFh, nfs_fh}
use Rattle.nfs.specs.declared.dir.diropargs3.{diropargs3}
use Rattle.nfs.specs.declared.dir.nfs_fh3.{nfs_fh3}
use Rattle.nfsattr.specs.Meaning.Attr.{post-op-attr}
use Rattle.nfsattr.specs.Meaning.Stat.{nfsstat, success_or}
use Rattle.nfsattr.specs.declared.attr.post_op_attr.{post_op_attr}
use Rattle.nfsattr.specs.declared.stat.nfsfail3.{nfsfail3}
use Rattle.nfsfile.specs.declared.lookup.LOOKUP3args.{LOOKUP3args}
use Rattle.nfsfile.specs.declared.lookup.LOOKUP3res.{LOOKUP3res}
use Rattle.nfsfile.specs.declared.lookup.LOOKUP3resfail.{LOOKUP3resfail}
use Rattle.nfsfile.specs.declared.lookup.LOOKUP3resok.{LOOKUP3resok}
use Rattle.nfsfile.specs.declared.lookup.LOOKUP3res.TheVariants as lookupResIs

-- LOOKUP3args
pub record LookupArgs : Type 0 where
  pub what : Diropargs

abbrev pub lookup_args_names : Renaming Diropargs LookupArgs diropargs3 LOOKUP3args
lookup_args_names =
    record {
      to = λ x. record { what = x };
      from = λ m. m.what;
      from_to = λ x. refl;
      to_from = λ m. refl;
      hold = λ y. record { what = y };
      pieces = λ y. y.what;
      pieces_hold = λ y. refl;
    }

unfoldable pub lookup_args : Format LookupArgs LOOKUP3args
lookup_args = named diropargs lookup_args_names

-- LOOKUP3resok
pub record LookupResok : Type 0 where
  pub object : NfsFh
  pub obj_attributes : post_op_attr
  pub dir_attributes : post_op_attr

abbrev pub lookup_resok_names : Renaming (NfsFh × (post_op_attr × post_op_attr)) LookupResok (nfs_fh3 × (post_op_attr × post_op_attr)) LOOKUP3resok
lookup_resok_names =
    record {
      to = λ x. record { object = x.0; obj_attributes = x.1.0; dir_attributes = x.1.1 };
      from = λ m. (m.object, (m.obj_attributes, m.dir_attributes));
      from_to = λ x. refl;
      to_from = λ m. refl;
      hold = λ y. record { object = y.0; obj_attributes = y.1.0; dir_attributes = y.1.1 };
      pieces = λ y. (y.object, (y.obj_attributes, y.dir_attributes));
      pieces_hold = λ y. refl;
    }

unfoldable pub lookup_resok : Format LookupResok LOOKUP3resok
lookup_resok = named (nfs_fh ⨟ exactly post-op-attr ⨟ exactly post-op-attr) lookup_resok_names

-- LOOKUP3resfail
unfoldable pub lookup_resfail : Codec LOOKUP3resfail
lookup_resfail = mapped (post-op-attr) (λ x. record { dir_attributes = x }) (λ m. m.dir_attributes) (λ x. refl) (λ m. refl)

-- LOOKUP3res
abbrev pub lookup_res_to : Result nfsfail3 LOOKUP3resok LOOKUP3resfail → LOOKUP3res
lookup_res_to (ok f) = lookupResIs.NFS3_OK f
lookup_res_to (failed e f) = lookupResIs.Failed e f

abbrev pub lookup_res_from : LOOKUP3res → Result nfsfail3 LOOKUP3resok LOOKUP3resfail
lookup_res_from (lookupResIs.NFS3_OK f) = ok f
lookup_res_from (lookupResIs.Failed e f) = failed e f

pub lookup_res_from_to : (x : Result nfsfail3 LOOKUP3resok LOOKUP3resfail) → lookup_res_from (lookup_res_to x) ≡ x
lookup_res_from_to (ok f) = refl
lookup_res_from_to (failed e f) = refl

pub lookup_res_to_from : (y : LOOKUP3res) → lookup_res_to (lookup_res_from y) ≡ y
lookup_res_to_from (lookupResIs.NFS3_OK f) = refl
lookup_res_to_from (lookupResIs.Failed e f) = refl

abbrev pub lookup_res_arms : Arms nfsfail3 LOOKUP3resok LOOKUP3resfail LOOKUP3res
lookup_res_arms = record { to = lookup_res_to; from = lookup_res_from; from_to = lookup_res_from_to; to_from = lookup_res_to_from }

unfoldable pub lookup_res : Format (Result nfsfail3 LookupResok LOOKUP3resfail) LOOKUP3res
lookup_res = on_status nfsstat success_or lookup_resok (exactly lookup_resfail) lookup_res_arms
