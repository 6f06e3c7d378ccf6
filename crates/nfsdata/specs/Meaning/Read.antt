-- made by tools/generate from crates/nfsdata/rfc/read.x
-- READ: bytes of a file (RFC 1813, section 3.3.6). They stay in the message, as a piece.
-- Assumes nothing.
use Rattle.std.specs.Prelude.{refl, ◌≡◌, Bool, List, ℕ}
use Rattle.xdr.specs.Meaning.Kind.{Codec}
use Rattle.xdr.specs.Meaning.Codecs.{mapped}
use Rattle.xdr.specs.Meaning.Items.{hyper, word, flag}
use Rattle.xdr.specs.Meaning.Format.{Renaming, Format, named, ◌⨟◌, exactly}
use Rattle.xdr.specs.Meaning.Formats.{bytes}
use Rattle.xdr.specs.Meaning.Status.{Result, ok, failed, Arms, on_status}
use Rattle.xdr.specs.declared.piece.Piece.{Piece}
use Rattle.nfs.specs.Meaning.Dir.{NfsFh, nfs_fh}
use Rattle.nfs.specs.declared.dir.nfs_fh3.{nfs_fh3}
use Rattle.nfsattr.specs.Meaning.Attr.{post-op-attr}
use Rattle.nfsattr.specs.Meaning.Stat.{nfsstat, success_or}
use Rattle.nfsattr.specs.declared.attr.post_op_attr.{post_op_attr}
use Rattle.nfsattr.specs.declared.stat.nfsfail3.{nfsfail3}
use Rattle.nfsdata.specs.declared.read.READ3args.{READ3args}
use Rattle.nfsdata.specs.declared.read.READ3res.{READ3res}
use Rattle.nfsdata.specs.declared.read.READ3resfail.{READ3resfail}
use Rattle.nfsdata.specs.declared.read.READ3resok.{READ3resok}
use Rattle.nfsdata.specs.declared.read.READ3res.TheVariants as readResIs

-- READ3args
pub record ReadArgs : Type 0 where
  pub file : NfsFh
  pub offset : ℕ
  pub count : ℕ

abbrev pub read_args_names : Renaming (NfsFh × (ℕ × ℕ)) ReadArgs (nfs_fh3 × (ℕ × ℕ)) READ3args
read_args_names =
    record {
      to = λ x. record { file = x.0; offset = x.1.0; count = x.1.1 };
      from = λ m. (m.file, (m.offset, m.count));
      from_to = λ x. refl;
      to_from = λ m. refl;
      hold = λ y. record { file = y.0; offset = y.1.0; count = y.1.1 };
      pieces = λ y. (y.file, (y.offset, y.count));
      pieces_hold = λ y. refl;
    }

unfoldable pub read_args : Format ReadArgs READ3args
read_args = named (nfs_fh ⨟ exactly hyper ⨟ exactly word) read_args_names

-- READ3resok
pub record ReadResok : Type 0 where
  pub file_attributes : post_op_attr
  pub count : ℕ
  pub eof : Bool
  pub «data» : List ℕ

abbrev pub read_resok_names : Renaming (post_op_attr × (ℕ × (Bool × List ℕ))) ReadResok (post_op_attr × (ℕ × (Bool × Piece))) READ3resok
read_resok_names =
    record {
      to = λ x. record { file_attributes = x.0; count = x.1.0; eof = x.1.1.0; «data» = x.1.1.1 };
      from = λ m. (m.file_attributes, (m.count, (m.eof, m.«data»)));
      from_to = λ x. refl;
      to_from = λ m. refl;
      hold = λ y. record { file_attributes = y.0; count = y.1.0; eof = y.1.1.0; «data» = y.1.1.1 };
      pieces = λ y. (y.file_attributes, (y.count, (y.eof, y.«data»)));
      pieces_hold = λ y. refl;
    }

unfoldable pub read_resok : Format ReadResok READ3resok
read_resok = named (exactly post-op-attr ⨟ exactly word ⨟ exactly flag ⨟ bytes) read_resok_names

-- READ3resfail
unfoldable pub read_resfail : Codec READ3resfail
read_resfail = mapped (post-op-attr) (λ x. record { file_attributes = x }) (λ m. m.file_attributes) (λ x. refl) (λ m. refl)

-- READ3res
abbrev pub read_res_to : Result nfsfail3 READ3resok READ3resfail → READ3res
read_res_to (ok f) = readResIs.NFS3_OK f
read_res_to (failed e f) = readResIs.Failed e f

abbrev pub read_res_from : READ3res → Result nfsfail3 READ3resok READ3resfail
read_res_from (readResIs.NFS3_OK f) = ok f
read_res_from (readResIs.Failed e f) = failed e f

pub read_res_from_to : (x : Result nfsfail3 READ3resok READ3resfail) → read_res_from (read_res_to x) ≡ x
read_res_from_to (ok f) = refl
read_res_from_to (failed e f) = refl

pub read_res_to_from : (y : READ3res) → read_res_to (read_res_from y) ≡ y
read_res_to_from (readResIs.NFS3_OK f) = refl
read_res_to_from (readResIs.Failed e f) = refl

abbrev pub read_res_arms : Arms nfsfail3 READ3resok READ3resfail READ3res
read_res_arms = record { to = read_res_to; from = read_res_from; from_to = read_res_from_to; to_from = read_res_to_from }

unfoldable pub read_res : Format (Result nfsfail3 ReadResok READ3resfail) READ3res
read_res = on_status nfsstat success_or read_resok (exactly read_resfail) read_res_arms
