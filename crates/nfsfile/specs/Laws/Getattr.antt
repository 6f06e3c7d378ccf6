-- made by tools/generate from crates/nfsfile/rfc/getattr.x
-- What follows for the kinds of getattr: how they are read, how many bytes they have, and what is laid of them.
-- Assumes nothing.
use Rattle.std.specs.Prelude.{refl, ◌≡◌, Bool, ◌∷◌, [], List, ℕ, ◌≤◌, length}
use Rattle.std.proofs.Common.{arith}
use Rattle.xdr.specs.Meaning.Codecs.{void}
use Rattle.xdr.specs.Meaning.Format.{exactly}
use Rattle.xdr.specs.Meaning.Formats.{piece_held}
use Rattle.xdr.specs.Meaning.Public.{output, laid_of, laid}
use Rattle.xdr.specs.Meaning.Marks.{Marked, MarksAre}
use Rattle.xdr.specs.Laws.Fixed.{Fixed, seen-fixed}
use Rattle.xdr.specs.Laws.Plans.{Planned, plan, at}
use Rattle.xdr.specs.Laws.Records.{ByPlan, fields, one}
use Rattle.xdr.specs.Laws.Lengths.{Within, view-within, no_default, mapped-within, void-within}
use Rattle.xdr.specs.Laws.Write.{Ready}
use Rattle.xdr.specs.Laws.Writers.{Writer}
use Rattle.xdr.specs.Laws.Fields.{named-sized, fixed-writer, codec-writer}
use Rattle.xdr.specs.Laws.Status.{OnStatus, status-within, result_size, status-sized}
use Rattle.xdr.specs.Laws.Unpadded.{Unpadded, view-unpadded, void-unpadded}
use Rattle.xdr.specs.Laws.Marked.{named-marked, status-marked, plain-marked}
use Rattle.nfs.specs.Laws.Dir.{nfs-fh-within, nfs-fh-marked, nfs-fh-writer, nfs-fh-bound}
use Rattle.nfs.specs.Meaning.Dir.{nfs_fh}
use Rattle.nfsattr.specs.Laws.Lengths.{fattr-within, nfsstat-within}
use Rattle.nfsattr.specs.Laws.Sizes.{fattr-fixed, nfsstat-fixed}
use Rattle.nfsattr.specs.Laws.Unpadded.{fattr-unpadded, nfsstat-unpadded}
use Rattle.nfsattr.specs.Meaning.Attr.{fattr}
use Rattle.nfsattr.specs.Meaning.Stat.{nfsstat, success_or}
use Rattle.nfsfile.specs.Meaning.Getattr.{getattr_args, getattr_args_names, getattr_resok, getattr_res_arms, getattr_res, getattr_res_from}
use Rattle.nfsfile.specs.declared.getattr.GETATTR3args.{GETATTR3args}
use Rattle.nfsfile.specs.declared.getattr.GETATTR3res.{GETATTR3res}
use Rattle.nfsfile.specs.declared.getattr.GETATTR3resok.{GETATTR3resok}
use Rattle.nfsfile.specs.declared.getattr.GETATTR3res.TheVariants as getattrResIs

-- GETATTR3args
abbrev pub getattr-args-plan : Planned getattr_args.held.read
unfolding getattr_args
getattr-args-plan = plan (at nfs_fh) _

pub getattr-args-within : Within 0 getattr_args.codec.kind
unfolding getattr_args
getattr-args-within = view-within _ _ nfs_fh.codec.laws nfs-fh-within (λ x m l u w e s f. no_default s)

pub getattr-args-marked : Marked getattr_args.held
unfolding getattr_args
getattr-args-marked = named-marked nfs_fh getattr_args_names nfs-fh-marked

pub getattr-args-marks : (x : GETATTR3args) → MarksAre getattr_args x (x.object.«data».clean ∷ [])
unfolding getattr_args nfs_fh piece_held
getattr-args-marks x = record { are = λ s. refl }

abbrev pub getattr_args_size : GETATTR3args → ℕ
getattr_args_size x = nfs-fh-writer.size x.object

pub getattr-args-sized : (s : List ℕ) (x : GETATTR3args) → Ready getattr_args s x → length (output getattr_args s x) ≡ getattr_args_size x
unfolding getattr_args
getattr-args-sized s x r = named-sized _ getattr_args_names nfs-fh-writer s x (record { short = r.short; inside = r.inside })

abbrev pub getattr-args-writer : Writer getattr_args
getattr-args-writer = record { size = getattr_args_size; sized = getattr-args-sized }

pub getattr-args-bound : (x : GETATTR3args) → getattr_args_size x ≤ 2097152
getattr-args-bound x = omega (arith, nfs-fh-bound x.object)

pub getattr-args-most : (n : ℕ) (x : GETATTR3args) → n ≡ getattr_args_size x → n ≤ 4294967296
getattr-args-most n x e = omega (arith, getattr-args-bound x)

pub getattr-args-inside : (s : List ℕ) (x : GETATTR3args) (a : Bool) → a ≡ nfs_fh.held.inside s x.object → a ≡ getattr_args.held.inside s x
unfolding getattr_args piece_held
getattr-args-inside s x a ea = ea

pub getattr-args-laid : (s : List ℕ) (x : GETATTR3args) (o z : List ℕ) → z ≡ laid_of nfs_fh s x.object o → z ≡ laid_of getattr_args s x o
unfolding getattr_args laid_of
getattr-args-laid s x o z e = e

-- GETATTR3resok
abbrev pub getattr-resok-plan : ByPlan getattr_resok
unfolding getattr_resok
getattr-resok-plan = fields (one fattr) _ _ _ _

pub getattr-resok-within : Within 0 getattr_resok.kind
unfolding getattr_resok
getattr-resok-within = mapped-within (fattr) _ _ _ _ fattr-within

pub getattr-resok-unpadded : Unpadded getattr_resok.kind
unfolding getattr_resok
getattr-resok-unpadded = view-unpadded (λ x. refl) fattr-unpadded

pub getattr-resok-fixed : Fixed 84 getattr_resok
unfolding getattr_resok
getattr-resok-fixed = seen-fixed fattr-fixed _ _ _ _

pub getattr-resok-laid : (v : GETATTR3resok) (o z : List ℕ) → z ≡ laid (fattr.kind.write v.obj_attributes) o → z ≡ laid (getattr_resok.kind.write v) o
unfolding getattr_resok
getattr-resok-laid v o z e = e

-- GETATTR3res
pub getattr-res-status : OnStatus nfsstat success_or (exactly getattr_resok) (exactly void) getattr_res_arms getattr_res
unfolding getattr_res
getattr-res-status = record { is = refl }

pub getattr-res-marked : Marked getattr_res.held
unfolding getattr_res
getattr-res-marked = status-marked nfsstat success_or (exactly getattr_resok) (exactly void) getattr_res_arms nfsstat-unpadded (plain-marked getattr-resok-unpadded) (plain-marked void-unpadded)

pub getattr-res-within : Within 0 getattr_res.codec.kind
unfolding getattr_res
getattr-res-within = status-within nfsstat success_or (exactly getattr_resok) (exactly void) getattr_res_arms nfsstat-within getattr-resok-within void-within

abbrev pub getattr_res_size : GETATTR3res → ℕ
getattr_res_size x = result_size getattr-res-status nfsstat-fixed (fixed-writer getattr-resok-fixed) (codec-writer void) (getattr_res_from x)

abbrev pub getattr-res-writer : Writer getattr_res
getattr-res-writer = record { size = getattr_res_size; sized = status-sized getattr-res-status nfsstat-fixed (fixed-writer getattr-resok-fixed) (codec-writer void) }

pub getattr-res-bound : (x : GETATTR3res) → getattr_res_size x ≤ 88
getattr-res-bound (getattrResIs.NFS3_OK f) = omega arith
getattr-res-bound (getattrResIs.Failed e) = omega arith

pub getattr-res-most : (n : ℕ) (x : GETATTR3res) → n ≡ getattr_res_size x → n ≤ 4294967296
getattr-res-most n x e = omega (arith, getattr-res-bound x)
