-- made by tools/generate from crates/nfsdata/rfc/write.x
-- WRITE: bytes for a file (RFC 1813, section 3.3.7). They stay in the message, as a piece.
-- Assumes nothing.
use Rattle.std.specs.Prelude.{◌≡◌, refl, List, ◌∷◌, [], ℕ}
use Rattle.xdr.specs.Meaning.Kind.{Codec}
use Rattle.xdr.specs.Meaning.Combinators.{among, means}
use Rattle.xdr.specs.Meaning.Codecs.{mapped, ◌⨾◌}
use Rattle.xdr.specs.Meaning.Items.{closed, hyper, word, verifier}
use Rattle.xdr.specs.Meaning.Format.{Renaming, Format, named, ◌⨟◌, exactly}
use Rattle.xdr.specs.Meaning.Formats.{bytes}
use Rattle.xdr.specs.Meaning.Status.{Result, ok, failed, Arms, on_status}
use Rattle.xdr.specs.declared.piece.Piece.{Piece}
use Rattle.nfs.specs.Meaning.Dir.{NfsFh, nfs_fh}
use Rattle.nfs.specs.declared.dir.nfs_fh3.{nfs_fh3}
use Rattle.nfsattr.specs.Meaning.Attr.{wcc-data}
use Rattle.nfsattr.specs.Meaning.Stat.{nfsstat, success_or}
use Rattle.nfsattr.specs.declared.stat.nfsfail3.{nfsfail3}
use Rattle.nfsdata.specs.declared.write.WRITE3args.{WRITE3args}
use Rattle.nfsdata.specs.declared.write.WRITE3res.{WRITE3res}
use Rattle.nfsdata.specs.declared.write.WRITE3resfail.{WRITE3resfail}
use Rattle.nfsdata.specs.declared.write.WRITE3resok.{WRITE3resok}
use Rattle.nfsdata.specs.declared.write.stable_how.{stable_how}
use Rattle.nfsdata.specs.declared.write.stable_how.TheVariants as stableHowIs
use Rattle.nfsdata.specs.declared.write.WRITE3res.TheVariants as writeResIs

-- stable_how
abbrev pub stable_how_number : stable_how → ℕ
stable_how_number stableHowIs.UNSTABLE = 0
stable_how_number stableHowIs.DATA_SYNC = 1
stable_how_number stableHowIs.FILE_SYNC = 2

abbrev pub stable_how_all : List stable_how
stable_how_all = stableHowIs.UNSTABLE ∷ stableHowIs.DATA_SYNC ∷ stableHowIs.FILE_SYNC ∷ []

pub each_stable_how : (a : stable_how) → among stable_how_number stable_how_all (stable_how_number a) ≡ means a []
each_stable_how stableHowIs.UNSTABLE = refl
each_stable_how stableHowIs.DATA_SYNC = refl
each_stable_how stableHowIs.FILE_SYNC = refl

unfoldable pub stable-how : Codec stable_how
stable-how = closed stable_how_number stable_how_all each_stable_how

-- WRITE3args
pub record WriteArgs : Type 0 where
  pub file : NfsFh
  pub offset : ℕ
  pub count : ℕ
  pub stable : stable_how
  pub «data» : List ℕ

abbrev pub write_args_names : Renaming (NfsFh × (ℕ × (ℕ × (stable_how × List ℕ)))) WriteArgs (nfs_fh3 × (ℕ × (ℕ × (stable_how × Piece)))) WRITE3args
write_args_names =
    record {
      to = λ x. record { file = x.0; offset = x.1.0; count = x.1.1.0; stable = x.1.1.1.0; «data» = x.1.1.1.1 };
      from = λ m. (m.file, (m.offset, (m.count, (m.stable, m.«data»))));
      from_to = λ x. refl;
      to_from = λ m. refl;
      hold = λ y. record { file = y.0; offset = y.1.0; count = y.1.1.0; stable = y.1.1.1.0; «data» = y.1.1.1.1 };
      pieces = λ y. (y.file, (y.offset, (y.count, (y.stable, y.«data»))));
      pieces_hold = λ y. refl;
    }

unfoldable pub write_args : Format WriteArgs WRITE3args
write_args = named (nfs_fh ⨟ exactly hyper ⨟ exactly word ⨟ exactly stable-how ⨟ bytes) write_args_names

-- WRITE3resok
unfoldable pub write_resok : Codec WRITE3resok
write_resok = mapped (wcc-data ⨾ word ⨾ stable-how ⨾ verifier) (λ x. record { file_wcc = x.0; count = x.1.0; committed = x.1.1.0; verf = x.1.1.1 }) (λ m. (m.file_wcc, (m.count, (m.committed, m.verf)))) (λ x. refl) (λ m. refl)

-- WRITE3resfail
unfoldable pub write_resfail : Codec WRITE3resfail
write_resfail = mapped (wcc-data) (λ x. record { file_wcc = x }) (λ m. m.file_wcc) (λ x. refl) (λ m. refl)

-- WRITE3res
abbrev pub write_res_to : Result nfsfail3 WRITE3resok WRITE3resfail → WRITE3res
write_res_to (ok f) = writeResIs.NFS3_OK f
write_res_to (failed e f) = writeResIs.Failed e f

abbrev pub write_res_from : WRITE3res → Result nfsfail3 WRITE3resok WRITE3resfail
write_res_from (writeResIs.NFS3_OK f) = ok f
write_res_from (writeResIs.Failed e f) = failed e f

pub write_res_from_to : (x : Result nfsfail3 WRITE3resok WRITE3resfail) → write_res_from (write_res_to x) ≡ x
write_res_from_to (ok f) = refl
write_res_from_to (failed e f) = refl

pub write_res_to_from : (y : WRITE3res) → write_res_to (write_res_from y) ≡ y
write_res_to_from (writeResIs.NFS3_OK f) = refl
write_res_to_from (writeResIs.Failed e f) = refl

abbrev pub write_res_arms : Arms nfsfail3 WRITE3resok WRITE3resfail WRITE3res
write_res_arms = record { to = write_res_to; from = write_res_from; from_to = write_res_from_to; to_from = write_res_to_from }

unfoldable pub write_res : Format (Result nfsfail3 WRITE3resok WRITE3resfail) WRITE3res
write_res = on_status nfsstat success_or (exactly write_resok) (exactly write_resfail) write_res_arms
