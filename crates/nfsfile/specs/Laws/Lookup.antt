-- made by tools/generate from crates/nfsfile/rfc/lookup.x
-- What follows for the kinds of lookup: how they are read, how many bytes they have, and what is laid of them.
-- Assumes nothing.
use Rattle.std.specs.Prelude.{refl, ◌≡◌, Bool, ◌∷◌, [], List, ℕ, ◌≤◌, length}
use Rattle.std.proofs.Common.{◌∙◌, sym, arith}
use Rattle.std.proofs.Math.Bool.{and-true}
use Rattle.xdr.specs.Meaning.Answer.{most}
use Rattle.xdr.specs.Meaning.Format.{exactly, ◌⨟◌}
use Rattle.xdr.specs.Meaning.Formats.{piece_held}
use Rattle.xdr.specs.Meaning.Public.{output, laid_of, laid}
use Rattle.xdr.specs.Meaning.Marks.{Marked, MarksAre}
use Rattle.xdr.specs.Laws.Plans.{Planned, plan, at, ◌then◌}
use Rattle.xdr.specs.Laws.Records.{ByPlan, fields, one}
use Rattle.xdr.specs.Laws.Lengths.{Within, view-within, no_default, pair-within, mapped-within}
use Rattle.xdr.specs.Laws.Write.{Ready}
use Rattle.xdr.specs.Laws.Writers.{Writer}
use Rattle.xdr.specs.Laws.Fields.{named-sized, pair-writer, codec-writer, Lays, lays-named}
use Rattle.xdr.specs.Laws.Optional.{Between}
use Rattle.xdr.specs.Laws.Status.{OnStatus, status-within, result_size, status-sized}
use Rattle.xdr.specs.Laws.Unpadded.{Unpadded, view-unpadded}
use Rattle.xdr.specs.Laws.Marked.{named-marked, pair-marked, plain-marked, status-marked}
use Rattle.nfs.specs.Laws.Dir.{diropargs-within, diropargs-marked, diropargs-writer, diropargs-bound, nfs-fh-within, nfs-fh-marked, nfs-fh-writer, nfs-fh-bound}
use Rattle.nfs.specs.Meaning.Dir.{diropargs, nfs_fh}
use Rattle.nfsattr.specs.Laws.Bytes.{post-op-attr-between}
use Rattle.nfsattr.specs.Laws.Lengths.{post-op-attr-within, nfsstat-within}
use Rattle.nfsattr.specs.Laws.Sizes.{nfsstat-fixed}
use Rattle.nfsattr.specs.Laws.Unpadded.{post-op-attr-unpadded, nfsstat-unpadded}
use Rattle.nfsattr.specs.Meaning.Attr.{post-op-attr}
use Rattle.nfsattr.specs.Meaning.Stat.{nfsstat, success_or}
use Rattle.nfsfile.specs.Meaning.Lookup.{lookup_args, lookup_args_names, lookup_resok, lookup_resok_names, lookup_resfail, lookup_res_arms, lookup_res, lookup_res_from}
use Rattle.nfsfile.specs.declared.lookup.LOOKUP3args.{LOOKUP3args}
use Rattle.nfsfile.specs.declared.lookup.LOOKUP3res.{LOOKUP3res}
use Rattle.nfsfile.specs.declared.lookup.LOOKUP3resfail.{LOOKUP3resfail}
use Rattle.nfsfile.specs.declared.lookup.LOOKUP3resok.{LOOKUP3resok}
use Rattle.nfsfile.specs.declared.lookup.LOOKUP3res.TheVariants as lookupResIs

-- LOOKUP3args
abbrev pub lookup-args-plan : Planned lookup_args.held.read
unfolding lookup_args
lookup-args-plan = plan (at diropargs) _

pub lookup-args-within : Within 0 lookup_args.codec.kind
unfolding lookup_args
lookup-args-within = view-within _ _ diropargs.codec.laws diropargs-within (λ x m l u w e s f. no_default s)

pub lookup-args-marked : Marked lookup_args.held
unfolding lookup_args
lookup-args-marked = named-marked diropargs lookup_args_names diropargs-marked

pub lookup-args-marks : (x : LOOKUP3args) → MarksAre lookup_args x (x.what.dir.«data».clean ∷ x.what.name.clean ∷ [])
unfolding lookup_args diropargs nfs_fh piece_held
lookup-args-marks x = record { are = λ s. refl }

abbrev pub lookup_args_size : LOOKUP3args → ℕ
lookup_args_size x = diropargs-writer.size x.what

pub lookup-args-sized : (s : List ℕ) (x : LOOKUP3args) → Ready lookup_args s x → length (output lookup_args s x) ≡ lookup_args_size x
unfolding lookup_args
lookup-args-sized s x r = named-sized _ lookup_args_names diropargs-writer s x (record { short = r.short; inside = r.inside })

abbrev pub lookup-args-writer : Writer lookup_args
lookup-args-writer = record { size = lookup_args_size; sized = lookup-args-sized }

pub lookup-args-bound : (x : LOOKUP3args) → lookup_args_size x ≤ 4194304
lookup-args-bound x = omega (arith, diropargs-bound x.what)

pub lookup-args-most : (n : ℕ) (x : LOOKUP3args) → n ≡ lookup_args_size x → n ≤ 4294967296
lookup-args-most n x e = omega (arith, lookup-args-bound x)

pub lookup-args-inside : (s : List ℕ) (x : LOOKUP3args) (a : Bool) → a ≡ diropargs.held.inside s x.what → a ≡ lookup_args.held.inside s x
unfolding lookup_args piece_held
lookup-args-inside s x a ea = ea

pub lookup-args-laid : (s : List ℕ) (x : LOOKUP3args) (o z : List ℕ) → z ≡ laid_of diropargs s x.what o → z ≡ laid_of lookup_args s x o
unfolding lookup_args laid_of
lookup-args-laid s x o z e = e

-- LOOKUP3resok
abbrev pub lookup-resok-plan : Planned lookup_resok.held.read
unfolding lookup_resok
lookup-resok-plan = plan (at nfs_fh then at (exactly post-op-attr) then at (exactly post-op-attr)) _

pub lookup-resok-within : Within 0 lookup_resok.codec.kind
unfolding lookup_resok
lookup-resok-within = view-within _ _ (nfs_fh ⨟ exactly post-op-attr ⨟ exactly post-op-attr).codec.laws (pair-within nfs-fh-within (pair-within post-op-attr-within post-op-attr-within)) (λ x m l u w e s f. no_default s)

pub lookup-resok-marked : Marked lookup_resok.held
unfolding lookup_resok
lookup-resok-marked = named-marked (nfs_fh ⨟ exactly post-op-attr ⨟ exactly post-op-attr) lookup_resok_names (pair-marked nfs-fh-marked (pair-marked (plain-marked post-op-attr-unpadded) (plain-marked post-op-attr-unpadded)))

pub lookup-resok-marks : (x : LOOKUP3resok) → MarksAre lookup_resok x (x.object.«data».clean ∷ [])
unfolding lookup_resok nfs_fh piece_held
lookup-resok-marks x = record { are = λ s. refl }

abbrev pub lookup-resok-2 : Writer (exactly post-op-attr ⨟ exactly post-op-attr)
lookup-resok-2 = pair-writer (codec-writer post-op-attr) (codec-writer post-op-attr)

abbrev pub lookup-resok-1 : Writer (nfs_fh ⨟ exactly post-op-attr ⨟ exactly post-op-attr)
lookup-resok-1 = pair-writer nfs-fh-writer lookup-resok-2

abbrev pub lookup_resok_size : LOOKUP3resok → ℕ
lookup_resok_size x = lookup-resok-1.size (x.object, (x.obj_attributes, x.dir_attributes))

pub lookup-resok-sized : (s : List ℕ) (x : LOOKUP3resok) → Ready lookup_resok s x → length (output lookup_resok s x) ≡ lookup_resok_size x
unfolding lookup_resok
lookup-resok-sized s x r = named-sized _ lookup_resok_names lookup-resok-1 s x (record { short = r.short; inside = r.inside })

abbrev pub lookup-resok-writer : Writer lookup_resok
lookup-resok-writer = record { size = lookup_resok_size; sized = lookup-resok-sized }

pub lookup-resok-bound : (x : LOOKUP3resok) → lookup_resok_size x ≤ 2097328
lookup-resok-bound x = omega (arith, nfs-fh-bound x.object, post-op-attr-between x.obj_attributes, post-op-attr-between x.dir_attributes)

pub lookup-resok-most : (n : ℕ) (x : LOOKUP3resok) → n ≡ lookup_resok_size x → n ≤ 4294967296
lookup-resok-most n x e = omega (arith, lookup-resok-bound x)

pub lookup-resok-inside : (s : List ℕ) (x : LOOKUP3resok) (a : Bool) → a ≡ nfs_fh.held.inside s x.object → a ≡ lookup_resok.held.inside s x
unfolding lookup_resok piece_held
lookup-resok-inside s x a ea = (ea ∙ sym (and-true (nfs_fh.held.inside s x.object)))

pub lookup-resok-lays : (s : List ℕ) (x : LOOKUP3resok) (o z : List ℕ) → Lays (nfs_fh ⨟ exactly post-op-attr ⨟ exactly post-op-attr) s (x.object, (x.obj_attributes, x.dir_attributes)) o z → Lays lookup_resok s x o z
unfolding lookup_resok
lookup-resok-lays s x o z a = lays-named _ lookup_resok_names s x o z a

-- LOOKUP3resfail
abbrev pub lookup-resfail-plan : ByPlan lookup_resfail
unfolding lookup_resfail
lookup-resfail-plan = fields (one post-op-attr) _ _ _ _

pub lookup-resfail-within : Within 0 lookup_resfail.kind
unfolding lookup_resfail
lookup-resfail-within = mapped-within (post-op-attr) _ _ _ _ post-op-attr-within

pub lookup-resfail-unpadded : Unpadded lookup_resfail.kind
unfolding lookup_resfail
lookup-resfail-unpadded = view-unpadded (λ x. refl) post-op-attr-unpadded

pub lookup-resfail-sized : (v : LOOKUP3resfail) → length (lookup_resfail.kind.write v) ≡ (codec-writer post-op-attr).size v.dir_attributes
unfolding lookup_resfail
lookup-resfail-sized v = (codec-writer post-op-attr).sized [] v.dir_attributes (record { short = omega arith; inside = refl })

pub lookup-resfail-between : (v : LOOKUP3resfail) → Between 4 88 (length (lookup_resfail.kind.write v))
lookup-resfail-between v = record { least = omega (arith, lookup-resfail-sized v, post-op-attr-between v.dir_attributes); greatest = omega (arith, lookup-resfail-sized v, post-op-attr-between v.dir_attributes) }

pub lookup-resfail-small : (v : LOOKUP3resfail) → length (lookup_resfail.kind.write v) ≤ most
lookup-resfail-small v = omega (arith, lookup-resfail-between v)

pub lookup-resfail-size : (v : LOOKUP3resfail) (a : ℕ) → a ≡ length (post-op-attr.kind.write v.dir_attributes) → a ≡ length (lookup_resfail.kind.write v)
lookup-resfail-size v a ea = omega (arith, lookup-resfail-sized v)

pub lookup-resfail-laid : (v : LOOKUP3resfail) (o z : List ℕ) → z ≡ laid (post-op-attr.kind.write v.dir_attributes) o → z ≡ laid (lookup_resfail.kind.write v) o
unfolding lookup_resfail
lookup-resfail-laid v o z e = e

-- LOOKUP3res
pub lookup-res-status : OnStatus nfsstat success_or lookup_resok (exactly lookup_resfail) lookup_res_arms lookup_res
unfolding lookup_res
lookup-res-status = record { is = refl }

pub lookup-res-marked : Marked lookup_res.held
unfolding lookup_res
lookup-res-marked = status-marked nfsstat success_or lookup_resok (exactly lookup_resfail) lookup_res_arms nfsstat-unpadded lookup-resok-marked (plain-marked lookup-resfail-unpadded)

pub lookup-res-within : Within 0 lookup_res.codec.kind
unfolding lookup_res
lookup-res-within = status-within nfsstat success_or lookup_resok (exactly lookup_resfail) lookup_res_arms nfsstat-within lookup-resok-within lookup-resfail-within

abbrev pub lookup_res_size : LOOKUP3res → ℕ
lookup_res_size x = result_size lookup-res-status nfsstat-fixed lookup-resok-writer (codec-writer lookup_resfail) (lookup_res_from x)

abbrev pub lookup-res-writer : Writer lookup_res
lookup-res-writer = record { size = lookup_res_size; sized = status-sized lookup-res-status nfsstat-fixed lookup-resok-writer (codec-writer lookup_resfail) }

pub lookup-res-bound : (x : LOOKUP3res) → lookup_res_size x ≤ 2097332
lookup-res-bound (lookupResIs.NFS3_OK f) = omega (arith, lookup-resok-bound f)
lookup-res-bound (lookupResIs.Failed e f) = omega (arith, lookup-resfail-between f)

pub lookup-res-most : (n : ℕ) (x : LOOKUP3res) → n ≡ lookup_res_size x → n ≤ 4294967296
lookup-res-most n x e = omega (arith, lookup-res-bound x)
