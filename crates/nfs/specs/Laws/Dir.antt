-- made by tools/generate from crates/nfs/rfc/dir.x
-- What follows for the kinds of dir: how they are read, how many bytes they have, and what is laid of them.
-- Assumes nothing.
use Rattle.std.specs.Prelude.{refl, ◌≡◌, Bool, ◌&&◌, ◌∷◌, [], List, ℕ, ◌≤◌, length}
use Rattle.std.proofs.Common.{ap₂, arith}
use Rattle.xdr.specs.Meaning.Format.{◌⨟◌, exactly}
use Rattle.xdr.specs.Meaning.Formats.{bytes, piece_held}
use Rattle.xdr.specs.Meaning.Pieces.{is_inside}
use Rattle.xdr.specs.Meaning.Public.{output, laid_of}
use Rattle.xdr.specs.Meaning.Marks.{Marked, MarksAre}
use Rattle.xdr.specs.Laws.Padding.{size_small}
use Rattle.xdr.specs.Laws.Plans.{Planned, plan, at, optionally, ◌then◌}
use Rattle.xdr.specs.Laws.Lengths.{Within, view-within, opaque-within, no_default, pair-within}
use Rattle.xdr.specs.Laws.Write.{Ready}
use Rattle.xdr.specs.Laws.Writers.{bytes-writer, Writer}
use Rattle.xdr.specs.Laws.Fields.{named-sized, pair-writer, Lays, lays-named, codec-writer}
use Rattle.xdr.specs.Laws.Optional.{held-within, OptionalHeld, option_size, held-sized}
use Rattle.xdr.specs.Laws.Marked.{named-marked, bytes-marked, pair-marked, plain-marked}
use Rattle.xdr.proofs.Flagged.{maybe-marked}
use Rattle.nfs.specs.Laws.Bytes.{sattr-between}
use Rattle.nfs.specs.Laws.Lengths.{sattr-within}
use Rattle.nfs.specs.Laws.Unpadded.{sattr-unpadded}
use Rattle.nfs.specs.Meaning.Dir.{nfs_fh, nfs_fh_names, post_op_fh, post_op_fh_cases, post_op_fh_from, diropargs, diropargs_names, symlinkdata, symlinkdata_names}
use Rattle.nfs.specs.Meaning.Set.{sattr}
use Rattle.nfs.specs.declared.dir.diropargs3.{diropargs3}
use Rattle.nfs.specs.declared.dir.nfs_fh3.{nfs_fh3}
use Rattle.nfs.specs.declared.dir.post_op_fh3.{post_op_fh3}
use Rattle.nfs.specs.declared.dir.symlinkdata3.{symlinkdata3}
use Rattle.nfs.specs.declared.dir.post_op_fh3.TheVariants as postOpFhIs

-- nfs_fh3
abbrev pub nfs-fh-plan : Planned nfs_fh.held.read
unfolding nfs_fh
nfs-fh-plan = plan (at bytes) _

pub nfs-fh-within : Within 0 nfs_fh.codec.kind
unfolding nfs_fh
nfs-fh-within = view-within _ _ bytes.codec.laws opaque-within (λ x m l u w e s f. no_default s)

pub nfs-fh-marked : Marked nfs_fh.held
unfolding nfs_fh
nfs-fh-marked = named-marked bytes nfs_fh_names bytes-marked

pub nfs-fh-marks : (x : nfs_fh3) → MarksAre nfs_fh x (x.«data».clean ∷ [])
unfolding nfs_fh piece_held
nfs-fh-marks x = record { are = λ s. refl }

abbrev pub nfs_fh_size : nfs_fh3 → ℕ
nfs_fh_size x = bytes-writer.size x.«data»

pub nfs-fh-sized : (s : List ℕ) (x : nfs_fh3) → Ready nfs_fh s x → length (output nfs_fh s x) ≡ nfs_fh_size x
unfolding nfs_fh
nfs-fh-sized s x r = named-sized _ nfs_fh_names bytes-writer s x (record { short = r.short; inside = r.inside })

abbrev pub nfs-fh-writer : Writer nfs_fh
nfs-fh-writer = record { size = nfs_fh_size; sized = nfs-fh-sized }

pub nfs-fh-bound : (x : nfs_fh3) → nfs_fh_size x ≤ 2097152
nfs-fh-bound x = omega (arith, size_small x.«data».count)

pub nfs-fh-most : (n : ℕ) (x : nfs_fh3) → n ≡ nfs_fh_size x → n ≤ 4294967296
nfs-fh-most n x e = omega (arith, nfs-fh-bound x)

pub nfs-fh-inside : (s : List ℕ) (x : nfs_fh3) (a : Bool) → a ≡ is_inside s x.«data» → a ≡ nfs_fh.held.inside s x
unfolding nfs_fh piece_held
nfs-fh-inside s x a ea = ea

pub nfs-fh-laid : (s : List ℕ) (x : nfs_fh3) (o z : List ℕ) → z ≡ laid_of bytes s x.«data» o → z ≡ laid_of nfs_fh s x o
unfolding nfs_fh laid_of
nfs-fh-laid s x o z e = e

-- post_op_fh3
abbrev pub post-op-fh-plan : Planned post_op_fh.held.read
unfolding post_op_fh
post-op-fh-plan = plan (optionally (at nfs_fh)) _

pub post-op-fh-within : Within 0 post_op_fh.codec.kind
unfolding post_op_fh
post-op-fh-within = held-within nfs_fh post_op_fh_cases nfs-fh-within

pub post-op-fh-optional : OptionalHeld nfs_fh post_op_fh_cases post_op_fh
unfolding post_op_fh
post-op-fh-optional = record { is = refl }

abbrev pub post_op_fh_size : post_op_fh3 → ℕ
post_op_fh_size x = option_size nfs-fh-writer (post_op_fh_from x)

abbrev pub post-op-fh-writer : Writer post_op_fh
post-op-fh-writer = record { size = post_op_fh_size; sized = held-sized post-op-fh-optional nfs-fh-writer }

pub post-op-fh-bound : (x : post_op_fh3) → post_op_fh_size x ≤ 2097156
post-op-fh-bound postOpFhIs.Void = omega arith
post-op-fh-bound (postOpFhIs.handle f) = omega (arith, nfs-fh-bound f)

pub post-op-fh-most : (n : ℕ) (x : post_op_fh3) → n ≡ post_op_fh_size x → n ≤ 4294967296
post-op-fh-most n x e = omega (arith, post-op-fh-bound x)

pub post-op-fh-marked : Marked post_op_fh.held
unfolding post_op_fh
post-op-fh-marked = maybe-marked nfs_fh nfs-fh-marked post_op_fh_cases

-- diropargs3
abbrev pub diropargs-plan : Planned diropargs.held.read
unfolding diropargs
diropargs-plan = plan (at nfs_fh then at bytes) _

pub diropargs-within : Within 0 diropargs.codec.kind
unfolding diropargs
diropargs-within = view-within _ _ (nfs_fh ⨟ bytes).codec.laws (pair-within nfs-fh-within opaque-within) (λ x m l u w e s f. no_default s)

pub diropargs-marked : Marked diropargs.held
unfolding diropargs
diropargs-marked = named-marked (nfs_fh ⨟ bytes) diropargs_names (pair-marked nfs-fh-marked bytes-marked)

pub diropargs-marks : (x : diropargs3) → MarksAre diropargs x (x.dir.«data».clean ∷ x.name.clean ∷ [])
unfolding diropargs nfs_fh piece_held
diropargs-marks x = record { are = λ s. refl }

abbrev pub diropargs-1 : Writer (nfs_fh ⨟ bytes)
diropargs-1 = pair-writer nfs-fh-writer bytes-writer

abbrev pub diropargs_size : diropargs3 → ℕ
diropargs_size x = diropargs-1.size (x.dir, x.name)

pub diropargs-sized : (s : List ℕ) (x : diropargs3) → Ready diropargs s x → length (output diropargs s x) ≡ diropargs_size x
unfolding diropargs
diropargs-sized s x r = named-sized _ diropargs_names diropargs-1 s x (record { short = r.short; inside = r.inside })

abbrev pub diropargs-writer : Writer diropargs
diropargs-writer = record { size = diropargs_size; sized = diropargs-sized }

pub diropargs-bound : (x : diropargs3) → diropargs_size x ≤ 4194304
diropargs-bound x = omega (arith, nfs-fh-bound x.dir, size_small x.name.count)

pub diropargs-most : (n : ℕ) (x : diropargs3) → n ≡ diropargs_size x → n ≤ 4294967296
diropargs-most n x e = omega (arith, diropargs-bound x)

pub diropargs-inside : (s : List ℕ) (x : diropargs3) (a b : Bool) → a ≡ nfs_fh.held.inside s x.dir → b ≡ is_inside s x.name → (a && b) ≡ diropargs.held.inside s x
unfolding diropargs piece_held
diropargs-inside s x a b ea eb = ap₂ (λ a b. a && b) ea eb

pub diropargs-lays : (s : List ℕ) (x : diropargs3) (o z : List ℕ) → Lays (nfs_fh ⨟ bytes) s (x.dir, x.name) o z → Lays diropargs s x o z
unfolding diropargs
diropargs-lays s x o z a = lays-named _ diropargs_names s x o z a

-- symlinkdata3
abbrev pub symlinkdata-plan : Planned symlinkdata.held.read
unfolding symlinkdata
symlinkdata-plan = plan (at (exactly sattr) then at bytes) _

pub symlinkdata-within : Within 0 symlinkdata.codec.kind
unfolding symlinkdata
symlinkdata-within = view-within _ _ (exactly sattr ⨟ bytes).codec.laws (pair-within sattr-within opaque-within) (λ x m l u w e s f. no_default s)

pub symlinkdata-marked : Marked symlinkdata.held
unfolding symlinkdata
symlinkdata-marked = named-marked (exactly sattr ⨟ bytes) symlinkdata_names (pair-marked (plain-marked sattr-unpadded) bytes-marked)

pub symlinkdata-marks : (x : symlinkdata3) → MarksAre symlinkdata x (x.symlink_data.clean ∷ [])
unfolding symlinkdata piece_held
symlinkdata-marks x = record { are = λ s. refl }

abbrev pub symlinkdata-1 : Writer (exactly sattr ⨟ bytes)
symlinkdata-1 = pair-writer (codec-writer sattr) bytes-writer

abbrev pub symlinkdata_size : symlinkdata3 → ℕ
symlinkdata_size x = symlinkdata-1.size (x.symlink_attributes, x.symlink_data)

pub symlinkdata-sized : (s : List ℕ) (x : symlinkdata3) → Ready symlinkdata s x → length (output symlinkdata s x) ≡ symlinkdata_size x
unfolding symlinkdata
symlinkdata-sized s x r = named-sized _ symlinkdata_names symlinkdata-1 s x (record { short = r.short; inside = r.inside })

abbrev pub symlinkdata-writer : Writer symlinkdata
symlinkdata-writer = record { size = symlinkdata_size; sized = symlinkdata-sized }

pub symlinkdata-bound : (x : symlinkdata3) → symlinkdata_size x ≤ 2097212
symlinkdata-bound x = omega (arith, sattr-between x.symlink_attributes, size_small x.symlink_data.count)

pub symlinkdata-most : (n : ℕ) (x : symlinkdata3) → n ≡ symlinkdata_size x → n ≤ 4294967296
symlinkdata-most n x e = omega (arith, symlinkdata-bound x)

pub symlinkdata-inside : (s : List ℕ) (x : symlinkdata3) (a : Bool) → a ≡ is_inside s x.symlink_data → a ≡ symlinkdata.held.inside s x
unfolding symlinkdata piece_held
symlinkdata-inside s x a ea = ea

pub symlinkdata-lays : (s : List ℕ) (x : symlinkdata3) (o z : List ℕ) → Lays (exactly sattr ⨟ bytes) s (x.symlink_attributes, x.symlink_data) o z → Lays symlinkdata s x o z
unfolding symlinkdata
symlinkdata-lays s x o z a = lays-named _ symlinkdata_names s x o z a
