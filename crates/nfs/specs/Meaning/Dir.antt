-- made by tools/generate from crates/nfs/rfc/dir.x
-- Handles, names and what is made of them (RFC 1813, sections 2.5 and 2.6). Their bytes stay in the message, as pieces.
-- Assumes nothing.
use Rattle.std.specs.Prelude.{refl, ◌≡◌, List, ℕ}
use Rattle.std.proofs.Math.Option.{Option, none, some}
use Rattle.xdr.specs.Meaning.Format.{Renaming, Format, named, ◌⨟◌, exactly}
use Rattle.xdr.specs.Meaning.Formats.{bytes}
use Rattle.xdr.specs.Meaning.Cases.{Cases, maybe_held}
use Rattle.xdr.specs.declared.piece.Piece.{Piece}
use Rattle.nfs.specs.Meaning.Set.{sattr}
use Rattle.nfs.specs.declared.dir.diropargs3.{diropargs3}
use Rattle.nfs.specs.declared.dir.nfs_fh3.{nfs_fh3}
use Rattle.nfs.specs.declared.dir.post_op_fh3.{post_op_fh3}
use Rattle.nfs.specs.declared.dir.symlinkdata3.{symlinkdata3}
use Rattle.nfs.specs.declared.set.sattr3.{sattr3}
use Rattle.nfs.specs.declared.dir.post_op_fh3.TheVariants as postOpFhIs

-- nfs_fh3
pub record NfsFh : Type 0 where
  pub «data» : List ℕ

abbrev pub nfs_fh_names : Renaming (List ℕ) NfsFh Piece nfs_fh3
nfs_fh_names =
    record {
      to = λ x. record { «data» = x };
      from = λ m. m.«data»;
      from_to = λ x. refl;
      to_from = λ m. refl;
      hold = λ y. record { «data» = y };
      pieces = λ y. y.«data»;
      pieces_hold = λ y. refl;
    }

unfoldable pub nfs_fh : Format NfsFh nfs_fh3
nfs_fh = named bytes nfs_fh_names

-- post_op_fh3
abbrev pub post_op_fh_to : Option nfs_fh3 → post_op_fh3
post_op_fh_to none = postOpFhIs.Void
post_op_fh_to (some f) = postOpFhIs.handle f

abbrev pub post_op_fh_from : post_op_fh3 → Option nfs_fh3
post_op_fh_from postOpFhIs.Void = none
post_op_fh_from (postOpFhIs.handle f) = some f

pub post_op_fh_from_to : (x : Option nfs_fh3) → post_op_fh_from (post_op_fh_to x) ≡ x
post_op_fh_from_to none = refl
post_op_fh_from_to (some f) = refl

pub post_op_fh_to_from : (y : post_op_fh3) → post_op_fh_to (post_op_fh_from y) ≡ y
post_op_fh_to_from postOpFhIs.Void = refl
post_op_fh_to_from (postOpFhIs.handle f) = refl

abbrev pub post_op_fh_cases : Cases nfs_fh3 post_op_fh3
post_op_fh_cases = record { to = post_op_fh_to; from = post_op_fh_from; from_to = post_op_fh_from_to; to_from = post_op_fh_to_from }

unfoldable pub post_op_fh : Format (Option NfsFh) post_op_fh3
post_op_fh = maybe_held nfs_fh post_op_fh_cases

-- diropargs3
pub record Diropargs : Type 0 where
  pub dir : NfsFh
  pub name : List ℕ

abbrev pub diropargs_names : Renaming (NfsFh × List ℕ) Diropargs (nfs_fh3 × Piece) diropargs3
diropargs_names =
    record {
      to = λ x. record { dir = x.0; name = x.1 };
      from = λ m. (m.dir, m.name);
      from_to = λ x. refl;
      to_from = λ m. refl;
      hold = λ y. record { dir = y.0; name = y.1 };
      pieces = λ y. (y.dir, y.name);
      pieces_hold = λ y. refl;
    }

unfoldable pub diropargs : Format Diropargs diropargs3
diropargs = named (nfs_fh ⨟ bytes) diropargs_names

-- symlinkdata3
pub record Symlinkdata : Type 0 where
  pub symlink_attributes : sattr3
  pub symlink_data : List ℕ

abbrev pub symlinkdata_names : Renaming (sattr3 × List ℕ) Symlinkdata (sattr3 × Piece) symlinkdata3
symlinkdata_names =
    record {
      to = λ x. record { symlink_attributes = x.0; symlink_data = x.1 };
      from = λ m. (m.symlink_attributes, m.symlink_data);
      from_to = λ x. refl;
      to_from = λ m. refl;
      hold = λ y. record { symlink_attributes = y.0; symlink_data = y.1 };
      pieces = λ y. (y.symlink_attributes, y.symlink_data);
      pieces_hold = λ y. refl;
    }

unfoldable pub symlinkdata : Format Symlinkdata symlinkdata3
symlinkdata = named (exactly sattr ⨟ bytes) symlinkdata_names
