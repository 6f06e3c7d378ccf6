-- made by tools/generate from crates/nfsfile/rfc/setattr.x
-- What follows for the kinds of setattr: how they are read, how many bytes they have, and what is laid of them.
-- Assumes nothing.
use Rattle.std.specs.Prelude.{refl, ◌≡◌, Bool, ◌∷◌, [], List, ◌≤◌, ℕ, length}
use Rattle.std.proofs.Common.{◌∙◌, sym, arith}
use Rattle.std.proofs.Math.Bool.{and-true}
use Rattle.xdr.specs.Meaning.Answer.{most}
use Rattle.xdr.specs.Meaning.Format.{exactly, ◌⨟◌}
use Rattle.xdr.specs.Meaning.Formats.{piece_held}
use Rattle.xdr.specs.Meaning.Public.{output, laid}
use Rattle.xdr.specs.Meaning.Marks.{Marked, MarksAre}
use Rattle.xdr.specs.Laws.Plans.{Planned, plan, at, ◌then◌}
use Rattle.xdr.specs.Laws.Records.{ByPlan, fields, one}
use Rattle.xdr.specs.Laws.Lengths.{Within, view-within, pair-within, no_default, mapped-within}
use Rattle.xdr.specs.Laws.Write.{Ready}
use Rattle.xdr.specs.Laws.Writers.{Writer}
use Rattle.xdr.specs.Laws.Fields.{pair-writer, codec-writer, named-sized, Lays, lays-named}
use Rattle.xdr.specs.Laws.Optional.{maybe-plan, maybe-within, Optional, Between, maybe-between}
use Rattle.xdr.specs.Laws.Status.{OnStatus, status-within, result_size, status-sized}
use Rattle.xdr.specs.Laws.Unpadded.{Unpadded, view-unpadded}
use Rattle.xdr.specs.Laws.Marked.{named-marked, pair-marked, plain-marked, status-marked}
use Rattle.xdr.proofs.Flagged.{option-unpadded}
use Rattle.nfs.specs.Laws.Bytes.{sattr-between}
use Rattle.nfs.specs.Laws.Dir.{nfs-fh-within, nfs-fh-marked, nfs-fh-writer, nfs-fh-bound}
use Rattle.nfs.specs.Laws.Lengths.{sattr-within}
use Rattle.nfs.specs.Laws.Unpadded.{sattr-unpadded}
use Rattle.nfs.specs.Meaning.Dir.{nfs_fh}
use Rattle.nfs.specs.Meaning.Set.{sattr}
use Rattle.nfsattr.specs.Laws.Bytes.{wcc-data-between}
use Rattle.nfsattr.specs.Laws.Lengths.{nfstime-within, wcc-data-within, nfsstat-within}
use Rattle.nfsattr.specs.Laws.Sizes.{nfstime-fixed, nfsstat-fixed}
use Rattle.nfsattr.specs.Laws.Unpadded.{nfstime-unpadded, wcc-data-unpadded, nfsstat-unpadded}
use Rattle.nfsattr.specs.Meaning.Attr.{nfstime, wcc-data}
use Rattle.nfsattr.specs.Meaning.Stat.{nfsstat, success_or}
use Rattle.nfsfile.specs.Meaning.Setattr.{sattrguard, sattrguard_cases, setattr_args, setattr_args_names, setattr_resok, setattr_resfail, setattr_res_arms, setattr_res, setattr_res_from}
use Rattle.nfsfile.specs.declared.setattr.SETATTR3args.{SETATTR3args}
use Rattle.nfsfile.specs.declared.setattr.SETATTR3res.{SETATTR3res}
use Rattle.nfsfile.specs.declared.setattr.SETATTR3resfail.{SETATTR3resfail}
use Rattle.nfsfile.specs.declared.setattr.SETATTR3resok.{SETATTR3resok}
use Rattle.nfsfile.specs.declared.setattr.sattrguard3.{sattrguard3}
use Rattle.nfsfile.specs.declared.setattr.SETATTR3res.TheVariants as setattrResIs

-- sattrguard3
abbrev pub sattrguard-plan : ByPlan sattrguard
unfolding sattrguard
sattrguard-plan = maybe-plan nfstime sattrguard_cases

pub sattrguard-within : Within 0 sattrguard.kind
unfolding sattrguard
sattrguard-within = maybe-within nfstime sattrguard_cases nfstime-within

pub sattrguard-optional : Optional nfstime sattrguard_cases sattrguard
unfolding sattrguard
sattrguard-optional = record { is = refl }

pub sattrguard-between : (v : sattrguard3) → Between 4 12 (length (sattrguard.kind.write v))
unfolding sattrguard
sattrguard-between v = maybe-between nfstime sattrguard_cases nfstime-fixed v

pub sattrguard-small : (v : sattrguard3) → length (sattrguard.kind.write v) ≤ most
sattrguard-small v = omega (arith, sattrguard-between v)

pub sattrguard-unpadded : Unpadded sattrguard.kind
unfolding sattrguard
sattrguard-unpadded = view-unpadded (λ x. refl) (option-unpadded nfstime nfstime-unpadded)

-- SETATTR3args
abbrev pub setattr-args-plan : Planned setattr_args.held.read
unfolding setattr_args
setattr-args-plan = plan (at nfs_fh then at (exactly sattr) then at (exactly sattrguard)) _

pub setattr-args-within : Within 0 setattr_args.codec.kind
unfolding setattr_args
setattr-args-within = view-within _ _ (nfs_fh ⨟ exactly sattr ⨟ exactly sattrguard).codec.laws (pair-within nfs-fh-within (pair-within sattr-within sattrguard-within)) (λ x m l u w e s f. no_default s)

pub setattr-args-marked : Marked setattr_args.held
unfolding setattr_args
setattr-args-marked = named-marked (nfs_fh ⨟ exactly sattr ⨟ exactly sattrguard) setattr_args_names (pair-marked nfs-fh-marked (pair-marked (plain-marked sattr-unpadded) (plain-marked sattrguard-unpadded)))

pub setattr-args-marks : (x : SETATTR3args) → MarksAre setattr_args x (x.object.«data».clean ∷ [])
unfolding setattr_args nfs_fh piece_held
setattr-args-marks x = record { are = λ s. refl }

abbrev pub setattr-args-2 : Writer (exactly sattr ⨟ exactly sattrguard)
setattr-args-2 = pair-writer (codec-writer sattr) (codec-writer sattrguard)

abbrev pub setattr-args-1 : Writer (nfs_fh ⨟ exactly sattr ⨟ exactly sattrguard)
setattr-args-1 = pair-writer nfs-fh-writer setattr-args-2

abbrev pub setattr_args_size : SETATTR3args → ℕ
setattr_args_size x = setattr-args-1.size (x.object, (x.new_attributes, x.guard))

pub setattr-args-sized : (s : List ℕ) (x : SETATTR3args) → Ready setattr_args s x → length (output setattr_args s x) ≡ setattr_args_size x
unfolding setattr_args
setattr-args-sized s x r = named-sized _ setattr_args_names setattr-args-1 s x (record { short = r.short; inside = r.inside })

abbrev pub setattr-args-writer : Writer setattr_args
setattr-args-writer = record { size = setattr_args_size; sized = setattr-args-sized }

pub setattr-args-bound : (x : SETATTR3args) → setattr_args_size x ≤ 2097224
setattr-args-bound x = omega (arith, nfs-fh-bound x.object, sattr-between x.new_attributes, sattrguard-between x.guard)

pub setattr-args-most : (n : ℕ) (x : SETATTR3args) → n ≡ setattr_args_size x → n ≤ 4294967296
setattr-args-most n x e = omega (arith, setattr-args-bound x)

pub setattr-args-inside : (s : List ℕ) (x : SETATTR3args) (a : Bool) → a ≡ nfs_fh.held.inside s x.object → a ≡ setattr_args.held.inside s x
unfolding setattr_args piece_held
setattr-args-inside s x a ea = (ea ∙ sym (and-true (nfs_fh.held.inside s x.object)))

pub setattr-args-lays : (s : List ℕ) (x : SETATTR3args) (o z : List ℕ) → Lays (nfs_fh ⨟ exactly sattr ⨟ exactly sattrguard) s (x.object, (x.new_attributes, x.guard)) o z → Lays setattr_args s x o z
unfolding setattr_args
setattr-args-lays s x o z a = lays-named _ setattr_args_names s x o z a

-- SETATTR3resok
abbrev pub setattr-resok-plan : ByPlan setattr_resok
unfolding setattr_resok
setattr-resok-plan = fields (one wcc-data) _ _ _ _

pub setattr-resok-within : Within 0 setattr_resok.kind
unfolding setattr_resok
setattr-resok-within = mapped-within (wcc-data) _ _ _ _ wcc-data-within

pub setattr-resok-unpadded : Unpadded setattr_resok.kind
unfolding setattr_resok
setattr-resok-unpadded = view-unpadded (λ x. refl) wcc-data-unpadded

pub setattr-resok-sized : (v : SETATTR3resok) → length (setattr_resok.kind.write v) ≡ (codec-writer wcc-data).size v.obj_wcc
unfolding setattr_resok
setattr-resok-sized v = (codec-writer wcc-data).sized [] v.obj_wcc (record { short = omega arith; inside = refl })

pub setattr-resok-between : (v : SETATTR3resok) → Between 8 116 (length (setattr_resok.kind.write v))
setattr-resok-between v = record { least = omega (arith, setattr-resok-sized v, wcc-data-between v.obj_wcc); greatest = omega (arith, setattr-resok-sized v, wcc-data-between v.obj_wcc) }

pub setattr-resok-small : (v : SETATTR3resok) → length (setattr_resok.kind.write v) ≤ most
setattr-resok-small v = omega (arith, setattr-resok-between v)

pub setattr-resok-size : (v : SETATTR3resok) (a : ℕ) → a ≡ length (wcc-data.kind.write v.obj_wcc) → a ≡ length (setattr_resok.kind.write v)
setattr-resok-size v a ea = omega (arith, setattr-resok-sized v)

pub setattr-resok-laid : (v : SETATTR3resok) (o z : List ℕ) → z ≡ laid (wcc-data.kind.write v.obj_wcc) o → z ≡ laid (setattr_resok.kind.write v) o
unfolding setattr_resok
setattr-resok-laid v o z e = e

-- SETATTR3resfail
abbrev pub setattr-resfail-plan : ByPlan setattr_resfail
unfolding setattr_resfail
setattr-resfail-plan = fields (one wcc-data) _ _ _ _

pub setattr-resfail-within : Within 0 setattr_resfail.kind
unfolding setattr_resfail
setattr-resfail-within = mapped-within (wcc-data) _ _ _ _ wcc-data-within

pub setattr-resfail-unpadded : Unpadded setattr_resfail.kind
unfolding setattr_resfail
setattr-resfail-unpadded = view-unpadded (λ x. refl) wcc-data-unpadded

pub setattr-resfail-sized : (v : SETATTR3resfail) → length (setattr_resfail.kind.write v) ≡ (codec-writer wcc-data).size v.obj_wcc
unfolding setattr_resfail
setattr-resfail-sized v = (codec-writer wcc-data).sized [] v.obj_wcc (record { short = omega arith; inside = refl })

pub setattr-resfail-between : (v : SETATTR3resfail) → Between 8 116 (length (setattr_resfail.kind.write v))
setattr-resfail-between v = record { least = omega (arith, setattr-resfail-sized v, wcc-data-between v.obj_wcc); greatest = omega (arith, setattr-resfail-sized v, wcc-data-between v.obj_wcc) }

pub setattr-resfail-small : (v : SETATTR3resfail) → length (setattr_resfail.kind.write v) ≤ most
setattr-resfail-small v = omega (arith, setattr-resfail-between v)

pub setattr-resfail-size : (v : SETATTR3resfail) (a : ℕ) → a ≡ length (wcc-data.kind.write v.obj_wcc) → a ≡ length (setattr_resfail.kind.write v)
setattr-resfail-size v a ea = omega (arith, setattr-resfail-sized v)

pub setattr-resfail-laid : (v : SETATTR3resfail) (o z : List ℕ) → z ≡ laid (wcc-data.kind.write v.obj_wcc) o → z ≡ laid (setattr_resfail.kind.write v) o
unfolding setattr_resfail
setattr-resfail-laid v o z e = e

-- SETATTR3res
pub setattr-res-status : OnStatus nfsstat success_or (exactly setattr_resok) (exactly setattr_resfail) setattr_res_arms setattr_res
unfolding setattr_res
setattr-res-status = record { is = refl }

pub setattr-res-marked : Marked setattr_res.held
unfolding setattr_res
setattr-res-marked = status-marked nfsstat success_or (exactly setattr_resok) (exactly setattr_resfail) setattr_res_arms nfsstat-unpadded (plain-marked setattr-resok-unpadded) (plain-marked setattr-resfail-unpadded)

pub setattr-res-within : Within 0 setattr_res.codec.kind
unfolding setattr_res
setattr-res-within = status-within nfsstat success_or (exactly setattr_resok) (exactly setattr_resfail) setattr_res_arms nfsstat-within setattr-resok-within setattr-resfail-within

abbrev pub setattr_res_size : SETATTR3res → ℕ
setattr_res_size x = result_size setattr-res-status nfsstat-fixed (codec-writer setattr_resok) (codec-writer setattr_resfail) (setattr_res_from x)

abbrev pub setattr-res-writer : Writer setattr_res
setattr-res-writer = record { size = setattr_res_size; sized = status-sized setattr-res-status nfsstat-fixed (codec-writer setattr_resok) (codec-writer setattr_resfail) }

pub setattr-res-bound : (x : SETATTR3res) → setattr_res_size x ≤ 120
setattr-res-bound (setattrResIs.NFS3_OK f) = omega (arith, setattr-resok-between f)
setattr-res-bound (setattrResIs.Failed e f) = omega (arith, setattr-resfail-between f)

pub setattr-res-most : (n : ℕ) (x : SETATTR3res) → n ≡ setattr_res_size x → n ≤ 4294967296
setattr-res-most n x e = omega (arith, setattr-res-bound x)
