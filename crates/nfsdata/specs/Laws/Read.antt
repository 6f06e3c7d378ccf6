-- made by tools/generate from crates/nfsdata/rfc/read.x
-- What follows for the kinds of read: how they are read, how many bytes they have, and what is laid of them.
-- Assumes nothing.
use Rattle.std.specs.Prelude.{refl, ◌≡◌, Bool, ◌∷◌, [], List, ℕ, ◌≤◌, length}
use Rattle.std.proofs.Common.{◌∙◌, sym, arith}
use Rattle.std.proofs.Math.Bool.{and-true}
use Rattle.xdr.specs.Meaning.Answer.{most}
use Rattle.xdr.specs.Meaning.Items.{hyper, word, flag}
use Rattle.xdr.specs.Meaning.Format.{exactly, ◌⨟◌}
use Rattle.xdr.specs.Meaning.Formats.{piece_held, bytes}
use Rattle.xdr.specs.Meaning.Pieces.{is_inside}
use Rattle.xdr.specs.Meaning.Public.{output, laid}
use Rattle.xdr.specs.Meaning.Marks.{Marked, MarksAre}
use Rattle.xdr.specs.Laws.Padding.{size_small}
use Rattle.xdr.specs.Laws.Fixed.{hyper-fixed, word-fixed, flag-fixed}
use Rattle.xdr.specs.Laws.Plans.{Planned, plan, at, ◌then◌}
use Rattle.xdr.specs.Laws.Records.{ByPlan, fields, one}
use Rattle.xdr.specs.Laws.Lengths.{Within, view-within, pair-within, hyper-within, word-within, no_default, flag-within, opaque-within, mapped-within}
use Rattle.xdr.specs.Laws.Write.{Ready}
use Rattle.xdr.specs.Laws.Writers.{Writer, bytes-writer}
use Rattle.xdr.specs.Laws.Fields.{pair-writer, fixed-writer, named-sized, Lays, lays-named, codec-writer}
use Rattle.xdr.specs.Laws.Optional.{Between}
use Rattle.xdr.specs.Laws.Status.{OnStatus, status-within, result_size, status-sized}
use Rattle.xdr.specs.Laws.Unpadded.{hyper-unpadded, word-unpadded, flag-unpadded, Unpadded, view-unpadded}
use Rattle.xdr.specs.Laws.Marked.{named-marked, pair-marked, plain-marked, bytes-marked, status-marked}
use Rattle.nfs.specs.Laws.Dir.{nfs-fh-within, nfs-fh-marked, nfs-fh-writer, nfs-fh-bound}
use Rattle.nfs.specs.Meaning.Dir.{nfs_fh}
use Rattle.nfsattr.specs.Laws.Bytes.{post-op-attr-between}
use Rattle.nfsattr.specs.Laws.Lengths.{post-op-attr-within, nfsstat-within}
use Rattle.nfsattr.specs.Laws.Sizes.{nfsstat-fixed}
use Rattle.nfsattr.specs.Laws.Unpadded.{post-op-attr-unpadded, nfsstat-unpadded}
use Rattle.nfsattr.specs.Meaning.Attr.{post-op-attr}
use Rattle.nfsattr.specs.Meaning.Stat.{nfsstat, success_or}
use Rattle.nfsdata.specs.Meaning.Read.{read_args, read_args_names, read_resok, read_resok_names, read_resfail, read_res_arms, read_res, read_res_from}
use Rattle.nfsdata.specs.declared.read.READ3args.{READ3args}
use Rattle.nfsdata.specs.declared.read.READ3res.{READ3res}
use Rattle.nfsdata.specs.declared.read.READ3resfail.{READ3resfail}
use Rattle.nfsdata.specs.declared.read.READ3resok.{READ3resok}
use Rattle.nfsdata.specs.declared.read.READ3res.TheVariants as readResIs

-- READ3args
abbrev pub read-args-plan : Planned read_args.held.read
unfolding read_args
read-args-plan = plan (at nfs_fh then at (exactly hyper) then at (exactly word)) _

pub read-args-within : Within 0 read_args.codec.kind
unfolding read_args
read-args-within = view-within _ _ (nfs_fh ⨟ exactly hyper ⨟ exactly word).codec.laws (pair-within nfs-fh-within (pair-within hyper-within word-within)) (λ x m l u w e s f. no_default s)

pub read-args-marked : Marked read_args.held
unfolding read_args
read-args-marked = named-marked (nfs_fh ⨟ exactly hyper ⨟ exactly word) read_args_names (pair-marked nfs-fh-marked (pair-marked (plain-marked hyper-unpadded) (plain-marked word-unpadded)))

pub read-args-marks : (x : READ3args) → MarksAre read_args x (x.file.«data».clean ∷ [])
unfolding read_args nfs_fh piece_held
read-args-marks x = record { are = λ s. refl }

abbrev pub read-args-2 : Writer (exactly hyper ⨟ exactly word)
read-args-2 = pair-writer (fixed-writer hyper-fixed) (fixed-writer word-fixed)

abbrev pub read-args-1 : Writer (nfs_fh ⨟ exactly hyper ⨟ exactly word)
read-args-1 = pair-writer nfs-fh-writer read-args-2

abbrev pub read_args_size : READ3args → ℕ
read_args_size x = read-args-1.size (x.file, (x.offset, x.count))

pub read-args-sized : (s : List ℕ) (x : READ3args) → Ready read_args s x → length (output read_args s x) ≡ read_args_size x
unfolding read_args
read-args-sized s x r = named-sized _ read_args_names read-args-1 s x (record { short = r.short; inside = r.inside })

abbrev pub read-args-writer : Writer read_args
read-args-writer = record { size = read_args_size; sized = read-args-sized }

pub read-args-bound : (x : READ3args) → read_args_size x ≤ 2097164
read-args-bound x = omega (arith, nfs-fh-bound x.file)

pub read-args-most : (n : ℕ) (x : READ3args) → n ≡ read_args_size x → n ≤ 4294967296
read-args-most n x e = omega (arith, read-args-bound x)

pub read-args-inside : (s : List ℕ) (x : READ3args) (a : Bool) → a ≡ nfs_fh.held.inside s x.file → a ≡ read_args.held.inside s x
unfolding read_args piece_held
read-args-inside s x a ea = (ea ∙ sym (and-true (nfs_fh.held.inside s x.file)))

pub read-args-lays : (s : List ℕ) (x : READ3args) (o z : List ℕ) → Lays (nfs_fh ⨟ exactly hyper ⨟ exactly word) s (x.file, (x.offset, x.count)) o z → Lays read_args s x o z
unfolding read_args
read-args-lays s x o z a = lays-named _ read_args_names s x o z a

-- READ3resok
abbrev pub read-resok-plan : Planned read_resok.held.read
unfolding read_resok
read-resok-plan = plan (at (exactly post-op-attr) then at (exactly word) then at (exactly flag) then at bytes) _

pub read-resok-within : Within 0 read_resok.codec.kind
unfolding read_resok
read-resok-within = view-within _ _ (exactly post-op-attr ⨟ exactly word ⨟ exactly flag ⨟ bytes).codec.laws (pair-within post-op-attr-within (pair-within word-within (pair-within flag-within opaque-within))) (λ x m l u w e s f. no_default s)

pub read-resok-marked : Marked read_resok.held
unfolding read_resok
read-resok-marked = named-marked (exactly post-op-attr ⨟ exactly word ⨟ exactly flag ⨟ bytes) read_resok_names (pair-marked (plain-marked post-op-attr-unpadded) (pair-marked (plain-marked word-unpadded) (pair-marked (plain-marked flag-unpadded) bytes-marked)))

pub read-resok-marks : (x : READ3resok) → MarksAre read_resok x (x.«data».clean ∷ [])
unfolding read_resok piece_held
read-resok-marks x = record { are = λ s. refl }

abbrev pub read-resok-3 : Writer (exactly flag ⨟ bytes)
read-resok-3 = pair-writer (fixed-writer flag-fixed) bytes-writer

abbrev pub read-resok-2 : Writer (exactly word ⨟ exactly flag ⨟ bytes)
read-resok-2 = pair-writer (fixed-writer word-fixed) read-resok-3

abbrev pub read-resok-1 : Writer (exactly post-op-attr ⨟ exactly word ⨟ exactly flag ⨟ bytes)
read-resok-1 = pair-writer (codec-writer post-op-attr) read-resok-2

abbrev pub read_resok_size : READ3resok → ℕ
read_resok_size x = read-resok-1.size (x.file_attributes, (x.count, (x.eof, x.«data»)))

pub read-resok-sized : (s : List ℕ) (x : READ3resok) → Ready read_resok s x → length (output read_resok s x) ≡ read_resok_size x
unfolding read_resok
read-resok-sized s x r = named-sized _ read_resok_names read-resok-1 s x (record { short = r.short; inside = r.inside })

abbrev pub read-resok-writer : Writer read_resok
read-resok-writer = record { size = read_resok_size; sized = read-resok-sized }

pub read-resok-bound : (x : READ3resok) → read_resok_size x ≤ 2097248
read-resok-bound x = omega (arith, post-op-attr-between x.file_attributes, size_small x.«data».count)

pub read-resok-most : (n : ℕ) (x : READ3resok) → n ≡ read_resok_size x → n ≤ 4294967296
read-resok-most n x e = omega (arith, read-resok-bound x)

pub read-resok-inside : (s : List ℕ) (x : READ3resok) (a : Bool) → a ≡ is_inside s x.«data» → a ≡ read_resok.held.inside s x
unfolding read_resok piece_held
read-resok-inside s x a ea = ea

pub read-resok-lays : (s : List ℕ) (x : READ3resok) (o z : List ℕ) → Lays (exactly post-op-attr ⨟ exactly word ⨟ exactly flag ⨟ bytes) s (x.file_attributes, (x.count, (x.eof, x.«data»))) o z → Lays read_resok s x o z
unfolding read_resok
read-resok-lays s x o z a = lays-named _ read_resok_names s x o z a

-- READ3resfail
abbrev pub read-resfail-plan : ByPlan read_resfail
unfolding read_resfail
read-resfail-plan = fields (one post-op-attr) _ _ _ _

pub read-resfail-within : Within 0 read_resfail.kind
unfolding read_resfail
read-resfail-within = mapped-within (post-op-attr) _ _ _ _ post-op-attr-within

pub read-resfail-unpadded : Unpadded read_resfail.kind
unfolding read_resfail
read-resfail-unpadded = view-unpadded (λ x. refl) post-op-attr-unpadded

pub read-resfail-sized : (v : READ3resfail) → length (read_resfail.kind.write v) ≡ (codec-writer post-op-attr).size v.file_attributes
unfolding read_resfail
read-resfail-sized v = (codec-writer post-op-attr).sized [] v.file_attributes (record { short = omega arith; inside = refl })

pub read-resfail-between : (v : READ3resfail) → Between 4 88 (length (read_resfail.kind.write v))
read-resfail-between v = record { least = omega (arith, read-resfail-sized v, post-op-attr-between v.file_attributes); greatest = omega (arith, read-resfail-sized v, post-op-attr-between v.file_attributes) }

pub read-resfail-small : (v : READ3resfail) → length (read_resfail.kind.write v) ≤ most
read-resfail-small v = omega (arith, read-resfail-between v)

pub read-resfail-size : (v : READ3resfail) (a : ℕ) → a ≡ length (post-op-attr.kind.write v.file_attributes) → a ≡ length (read_resfail.kind.write v)
read-resfail-size v a ea = omega (arith, read-resfail-sized v)

pub read-resfail-laid : (v : READ3resfail) (o z : List ℕ) → z ≡ laid (post-op-attr.kind.write v.file_attributes) o → z ≡ laid (read_resfail.kind.write v) o
unfolding read_resfail
read-resfail-laid v o z e = e

-- READ3res
pub read-res-status : OnStatus nfsstat success_or read_resok (exactly read_resfail) read_res_arms read_res
unfolding read_res
read-res-status = record { is = refl }

pub read-res-marked : Marked read_res.held
unfolding read_res
read-res-marked = status-marked nfsstat success_or read_resok (exactly read_resfail) read_res_arms nfsstat-unpadded read-resok-marked (plain-marked read-resfail-unpadded)

pub read-res-within : Within 0 read_res.codec.kind
unfolding read_res
read-res-within = status-within nfsstat success_or read_resok (exactly read_resfail) read_res_arms nfsstat-within read-resok-within read-resfail-within

abbrev pub read_res_size : READ3res → ℕ
read_res_size x = result_size read-res-status nfsstat-fixed read-resok-writer (codec-writer read_resfail) (read_res_from x)

abbrev pub read-res-writer : Writer read_res
read-res-writer = record { size = read_res_size; sized = status-sized read-res-status nfsstat-fixed read-resok-writer (codec-writer read_resfail) }

pub read-res-bound : (x : READ3res) → read_res_size x ≤ 2097252
read-res-bound (readResIs.NFS3_OK f) = omega (arith, read-resok-bound f)
read-res-bound (readResIs.Failed e f) = omega (arith, read-resfail-between f)

pub read-res-most : (n : ℕ) (x : READ3res) → n ≡ read_res_size x → n ≤ 4294967296
read-res-most n x e = omega (arith, read-res-bound x)
