-- made by tools/generate from crates/nfsdata/rfc/write.x
-- What follows for the kinds of write: how they are read, how many bytes they have, and what is laid of them.
-- Assumes nothing.
use Rattle.std.specs.Prelude.{◌≡◌, refl, Bool, ◌&&◌, List, [], ◌∷◌, ℕ, ◌≤◌, ◌+◌, length}
use Rattle.std.proofs.Common.{ap, ap₂, arith}
use Rattle.xdr.specs.Meaning.Answer.{Written, most}
use Rattle.xdr.specs.Meaning.Codecs.{◌⨾◌}
use Rattle.xdr.specs.Meaning.Items.{word, hyper}
use Rattle.xdr.specs.Meaning.Format.{exactly, ◌⨟◌}
use Rattle.xdr.specs.Meaning.Formats.{bytes, piece_held}
use Rattle.xdr.specs.Meaning.Pieces.{is_inside}
use Rattle.xdr.specs.Meaning.Public.{Writes, output, laid}
use Rattle.xdr.specs.Meaning.Marks.{Marked, MarksAre}
use Rattle.xdr.specs.Laws.Padding.{size_small}
use Rattle.xdr.specs.Laws.Closed.{by_number}
use Rattle.xdr.specs.Laws.Fixed.{Fixed, seen-fixed, word-fixed, hyper-fixed}
use Rattle.xdr.specs.Laws.Plans.{at, Planned, plan, ◌then◌, ◌next◌}
use Rattle.xdr.specs.Laws.Records.{ByPlan, fields, one}
use Rattle.xdr.specs.Laws.Lengths.{Within, closed-within, view-within, pair-within, hyper-within, word-within, opaque-within, no_default, mapped-within}
use Rattle.xdr.specs.Laws.Write.{Ready}
use Rattle.xdr.specs.Laws.Writers.{Writer, bytes-writer}
use Rattle.xdr.specs.Laws.Fields.{pair-writer, fixed-writer, named-sized, Lays, lays-named, codec-writer}
use Rattle.xdr.specs.Laws.Optional.{Between}
use Rattle.xdr.specs.Laws.Status.{OnStatus, status-within, result_size, status-sized}
use Rattle.xdr.specs.Laws.Unpadded.{Unpadded, closed-unpadded, hyper-unpadded, word-unpadded, view-unpadded, pair-unpadded}
use Rattle.xdr.specs.Laws.Marked.{named-marked, pair-marked, plain-marked, bytes-marked, status-marked}
use Rattle.nfs.specs.Laws.Dir.{nfs-fh-within, nfs-fh-marked, nfs-fh-writer, nfs-fh-bound}
use Rattle.nfs.specs.Meaning.Dir.{nfs_fh}
use Rattle.nfsattr.specs.Laws.Bytes.{wcc-data-between}
use Rattle.nfsattr.specs.Laws.Lengths.{wcc-data-within, nfsstat-within}
use Rattle.nfsattr.specs.Laws.Sizes.{nfsstat-fixed}
use Rattle.nfsattr.specs.Laws.Unpadded.{wcc-data-unpadded, nfsstat-unpadded}
use Rattle.nfsattr.specs.Meaning.Attr.{wcc-data}
use Rattle.nfsattr.specs.Meaning.Stat.{nfsstat, success_or}
use Rattle.nfsdata.specs.Meaning.Write.{stable-how, stable_how_number, stable_how_all, each_stable_how, write_args, write_args_names, write_resok, write_resfail, write_res_arms, write_res, write_res_from}
use Rattle.nfsdata.specs.declared.write.WRITE3args.{WRITE3args}
use Rattle.nfsdata.specs.declared.write.WRITE3res.{WRITE3res}
use Rattle.nfsdata.specs.declared.write.WRITE3resfail.{WRITE3resfail}
use Rattle.nfsdata.specs.declared.write.WRITE3resok.{WRITE3resok}
use Rattle.nfsdata.specs.declared.write.stable_how.{stable_how}
use Rattle.nfsdata.specs.declared.write.WRITE3res.TheVariants as writeResIs

-- stable_how
pub stable-how-within : Within 0 stable-how.kind
unfolding stable-how
stable-how-within = closed-within stable_how_number stable_how_all each_stable_how

pub stable-how-unpadded : Unpadded stable-how.kind
unfolding stable-how
stable-how-unpadded = closed-unpadded stable_how_number stable_how_all each_stable_how

pub stable-how-fixed : Fixed 4 stable-how
unfolding stable-how
stable-how-fixed = seen-fixed word-fixed _ _ _ _

pub stable-how-writes : (a : stable_how) {v : ℕ} (at : ℕ) (o : List ℕ) {w : Written} {o' : List ℕ} → v ≡ stable_how_number a → Writes (exactly word) [] v at o w o'
    → Writes (exactly stable-how) [] a at o w o'
unfolding stable-how
stable-how-writes = by_number stable_how_number stable_how_all each_stable_how

pub stable-how-bytes : (n : ℕ) (a : stable_how) → n ≡ stable_how_number a → word.kind.write n ≡ stable-how.kind.write a
unfolding stable-how
stable-how-bytes n a e = ap word.kind.write e

-- WRITE3args
abbrev pub write-args-plan : Planned write_args.held.read
unfolding write_args
write-args-plan = plan (at nfs_fh then at (exactly hyper) then at (exactly word) then at (exactly stable-how) then at bytes) _

pub write-args-within : Within 0 write_args.codec.kind
unfolding write_args
write-args-within = view-within _ _ (nfs_fh ⨟ exactly hyper ⨟ exactly word ⨟ exactly stable-how ⨟ bytes).codec.laws (pair-within nfs-fh-within (pair-within hyper-within (pair-within word-within (pair-within stable-how-within opaque-within)))) (λ x m l u w e s f. no_default s)

pub write-args-marked : Marked write_args.held
unfolding write_args
write-args-marked = named-marked (nfs_fh ⨟ exactly hyper ⨟ exactly word ⨟ exactly stable-how ⨟ bytes) write_args_names (pair-marked nfs-fh-marked (pair-marked (plain-marked hyper-unpadded) (pair-marked (plain-marked word-unpadded) (pair-marked (plain-marked stable-how-unpadded) bytes-marked))))

pub write-args-marks : (x : WRITE3args) → MarksAre write_args x (x.file.«data».clean ∷ x.«data».clean ∷ [])
unfolding write_args nfs_fh piece_held
write-args-marks x = record { are = λ s. refl }

abbrev pub write-args-4 : Writer (exactly stable-how ⨟ bytes)
write-args-4 = pair-writer (fixed-writer stable-how-fixed) bytes-writer

abbrev pub write-args-3 : Writer (exactly word ⨟ exactly stable-how ⨟ bytes)
write-args-3 = pair-writer (fixed-writer word-fixed) write-args-4

abbrev pub write-args-2 : Writer (exactly hyper ⨟ exactly word ⨟ exactly stable-how ⨟ bytes)
write-args-2 = pair-writer (fixed-writer hyper-fixed) write-args-3

abbrev pub write-args-1 : Writer (nfs_fh ⨟ exactly hyper ⨟ exactly word ⨟ exactly stable-how ⨟ bytes)
write-args-1 = pair-writer nfs-fh-writer write-args-2

abbrev pub write_args_size : WRITE3args → ℕ
write_args_size x = write-args-1.size (x.file, (x.offset, (x.count, (x.stable, x.«data»))))

pub write-args-sized : (s : List ℕ) (x : WRITE3args) → Ready write_args s x → length (output write_args s x) ≡ write_args_size x
unfolding write_args
write-args-sized s x r = named-sized _ write_args_names write-args-1 s x (record { short = r.short; inside = r.inside })

abbrev pub write-args-writer : Writer write_args
write-args-writer = record { size = write_args_size; sized = write-args-sized }

pub write-args-bound : (x : WRITE3args) → write_args_size x ≤ 4194320
write-args-bound x = omega (arith, nfs-fh-bound x.file, size_small x.«data».count)

pub write-args-most : (n : ℕ) (x : WRITE3args) → n ≡ write_args_size x → n ≤ 4294967296
write-args-most n x e = omega (arith, write-args-bound x)

pub write-args-inside : (s : List ℕ) (x : WRITE3args) (a b : Bool) → a ≡ nfs_fh.held.inside s x.file → b ≡ is_inside s x.«data» → (a && b) ≡ write_args.held.inside s x
unfolding write_args piece_held
write-args-inside s x a b ea eb = ap₂ (λ a b. a && b) ea eb

pub write-args-lays : (s : List ℕ) (x : WRITE3args) (o z : List ℕ) → Lays (nfs_fh ⨟ exactly hyper ⨟ exactly word ⨟ exactly stable-how ⨟ bytes) s (x.file, (x.offset, (x.count, (x.stable, x.«data»)))) o z → Lays write_args s x o z
unfolding write_args
write-args-lays s x o z a = lays-named _ write_args_names s x o z a

-- WRITE3resok
abbrev pub write-resok-plan : ByPlan write_resok
unfolding write_resok
write-resok-plan = fields (one wcc-data next one word next one stable-how next one hyper) _ _ _ _

pub write-resok-within : Within 0 write_resok.kind
unfolding write_resok
write-resok-within = mapped-within (wcc-data ⨾ word ⨾ stable-how ⨾ hyper) _ _ _ _ (pair-within wcc-data-within (pair-within word-within (pair-within stable-how-within hyper-within)))

pub write-resok-unpadded : Unpadded write_resok.kind
unfolding write_resok
write-resok-unpadded = view-unpadded (λ x. refl) (pair-unpadded wcc-data-unpadded (pair-unpadded word-unpadded (pair-unpadded stable-how-unpadded hyper-unpadded)))

abbrev pub write-resok-3 : Writer (exactly stable-how ⨟ exactly hyper)
write-resok-3 = pair-writer (fixed-writer stable-how-fixed) (fixed-writer hyper-fixed)

abbrev pub write-resok-2 : Writer (exactly word ⨟ exactly stable-how ⨟ exactly hyper)
write-resok-2 = pair-writer (fixed-writer word-fixed) write-resok-3

abbrev pub write-resok-1 : Writer (exactly wcc-data ⨟ exactly word ⨟ exactly stable-how ⨟ exactly hyper)
write-resok-1 = pair-writer (codec-writer wcc-data) write-resok-2

pub write-resok-sized : (v : WRITE3resok) → length (write_resok.kind.write v) ≡ write-resok-1.size (v.file_wcc, (v.count, (v.committed, v.verf)))
unfolding write_resok
write-resok-sized v = write-resok-1.sized [] (v.file_wcc, (v.count, (v.committed, v.verf))) (record { short = omega arith; inside = refl })

pub write-resok-between : (v : WRITE3resok) → Between 24 132 (length (write_resok.kind.write v))
write-resok-between v = record { least = omega (arith, write-resok-sized v, wcc-data-between v.file_wcc); greatest = omega (arith, write-resok-sized v, wcc-data-between v.file_wcc) }

pub write-resok-small : (v : WRITE3resok) → length (write_resok.kind.write v) ≤ most
write-resok-small v = omega (arith, write-resok-between v)

pub write-resok-size : (v : WRITE3resok) (a : ℕ) → a ≡ length (wcc-data.kind.write v.file_wcc) → a + 16 ≡ length (write_resok.kind.write v)
write-resok-size v a ea = omega (arith, write-resok-sized v)

pub write-resok-lays : (v : WRITE3resok) (o z : List ℕ) → Lays (exactly wcc-data ⨟ exactly word ⨟ exactly stable-how ⨟ exactly hyper) [] (v.file_wcc, (v.count, (v.committed, v.verf))) o z → Lays (exactly write_resok) [] v o z
unfolding write_resok
write-resok-lays v o z a = record { put = λ r h. a.put (record { short = r.short; inside = refl }) h }

-- WRITE3resfail
abbrev pub write-resfail-plan : ByPlan write_resfail
unfolding write_resfail
write-resfail-plan = fields (one wcc-data) _ _ _ _

pub write-resfail-within : Within 0 write_resfail.kind
unfolding write_resfail
write-resfail-within = mapped-within (wcc-data) _ _ _ _ wcc-data-within

pub write-resfail-unpadded : Unpadded write_resfail.kind
unfolding write_resfail
write-resfail-unpadded = view-unpadded (λ x. refl) wcc-data-unpadded

pub write-resfail-sized : (v : WRITE3resfail) → length (write_resfail.kind.write v) ≡ (codec-writer wcc-data).size v.file_wcc
unfolding write_resfail
write-resfail-sized v = (codec-writer wcc-data).sized [] v.file_wcc (record { short = omega arith; inside = refl })

pub write-resfail-between : (v : WRITE3resfail) → Between 8 116 (length (write_resfail.kind.write v))
write-resfail-between v = record { least = omega (arith, write-resfail-sized v, wcc-data-between v.file_wcc); greatest = omega (arith, write-resfail-sized v, wcc-data-between v.file_wcc) }

pub write-resfail-small : (v : WRITE3resfail) → length (write_resfail.kind.write v) ≤ most
write-resfail-small v = omega (arith, write-resfail-between v)

pub write-resfail-size : (v : WRITE3resfail) (a : ℕ) → a ≡ length (wcc-data.kind.write v.file_wcc) → a ≡ length (write_resfail.kind.write v)
write-resfail-size v a ea = omega (arith, write-resfail-sized v)

pub write-resfail-laid : (v : WRITE3resfail) (o z : List ℕ) → z ≡ laid (wcc-data.kind.write v.file_wcc) o → z ≡ laid (write_resfail.kind.write v) o
unfolding write_resfail
write-resfail-laid v o z e = e

-- WRITE3res
pub write-res-status : OnStatus nfsstat success_or (exactly write_resok) (exactly write_resfail) write_res_arms write_res
unfolding write_res
write-res-status = record { is = refl }

pub write-res-marked : Marked write_res.held
unfolding write_res
write-res-marked = status-marked nfsstat success_or (exactly write_resok) (exactly write_resfail) write_res_arms nfsstat-unpadded (plain-marked write-resok-unpadded) (plain-marked write-resfail-unpadded)

pub write-res-within : Within 0 write_res.codec.kind
unfolding write_res
write-res-within = status-within nfsstat success_or (exactly write_resok) (exactly write_resfail) write_res_arms nfsstat-within write-resok-within write-resfail-within

abbrev pub write_res_size : WRITE3res → ℕ
write_res_size x = result_size write-res-status nfsstat-fixed (codec-writer write_resok) (codec-writer write_resfail) (write_res_from x)

abbrev pub write-res-writer : Writer write_res
write-res-writer = record { size = write_res_size; sized = status-sized write-res-status nfsstat-fixed (codec-writer write_resok) (codec-writer write_resfail) }

pub write-res-bound : (x : WRITE3res) → write_res_size x ≤ 136
write-res-bound (writeResIs.NFS3_OK f) = omega (arith, write-resok-between f)
write-res-bound (writeResIs.Failed e f) = omega (arith, write-resfail-between f)

pub write-res-most : (n : ℕ) (x : WRITE3res) → n ≡ write_res_size x → n ≤ 4294967296
write-res-most n x e = omega (arith, write-res-bound x)
