-- Records are written as their fields in order; and the ranges of those that have no constant size.
-- Assumes nothing.
use Rattle.std.specs.Prelude.{◌≡◌, refl, ◌++◌, ℕ, ◌+◌, ◌≤◌, length}
use Rattle.std.proofs.Common.{sym, ap, ◌∙◌, append_assoc, arith, length-append}
use Rattle.std.proofs.Math.Option.{none, some}
use Rattle.xdr.specs.Meaning.Answer.{most}
use Rattle.xdr.specs.Meaning.Items.{word, hyper, word_pair, hyper_pair}
use Rattle.nfsattr.specs.Meaning.Attr.{ftype, ftype_number, specdata, nfstime, fattr, wcc-attr, pre-op-attr, pre_cases, post-op-attr, post_cases, wcc-data, fsinfo}
use Rattle.nfsattr.specs.Laws.Groups.{ids, sizes, times, transfer, limits}
use Rattle.nfsattr.specs.Laws.Sizes.{fattr-fixed, wcc-attr-fixed}
use Rattle.nfsattr.specs.Laws.Words.{bounds-size}
use Rattle.xdr.specs.Laws.Optional.{Between, Optional, maybe-length, maybe-between}
use Rattle.nfsattr.specs.declared.attr.ftype3.{ftype3}
use Rattle.nfsattr.specs.declared.attr.specdata3.{specdata3}
use Rattle.nfsattr.specs.declared.attr.nfstime3.{nfstime3}
use Rattle.nfsattr.specs.declared.attr.wcc_attr.{wcc_attr}
use Rattle.nfsattr.specs.declared.attr.wcc_data.{wcc_data}
use Rattle.nfsattr.specs.declared.inner.attr.Transfer.{Transfer}
use Rattle.nfsattr.specs.declared.inner.attr.Limits.{Limits}
use Rattle.nfsattr.specs.declared.attr.fattr3.{fattr3}
use Rattle.nfsattr.specs.declared.attr.fsinfo3.{fsinfo3}
use Rattle.nfsattr.specs.declared.attr.pre_op_attr.{pre_op_attr}
use Rattle.nfsattr.specs.declared.attr.post_op_attr.{post_op_attr}
use Rattle.nfsattr.specs.declared.attr.post_op_attr.TheVariants as post

pub ftype-bytes : (n : ℕ) (a : ftype3) → n ≡ ftype_number a → word.kind.write n ≡ ftype.kind.write a
unfolding ftype
ftype-bytes n a e = ap word.kind.write e

pub specdata-bytes : (m : specdata3)
    → word_pair.kind.write (m.specdata1, m.specdata2) ≡ specdata.kind.write m
unfolding specdata word_pair
specdata-bytes m = refl

pub nfstime-bytes : (m : nfstime3)
    → word_pair.kind.write (m.seconds, m.nseconds) ≡ nfstime.kind.write m
unfolding nfstime word_pair
nfstime-bytes m = refl

pub ids-bytes : (t : ftype3) (mode nlink uid gid : ℕ)
    → (ftype.kind.write t ++ word_pair.kind.write (mode, nlink)) ++ word_pair.kind.write (uid, gid)
    ≡ ids.kind.write (record { ftype = t; mode = mode; nlink = nlink; uid = uid; gid = gid })
unfolding ids
ids-bytes t mode nlink uid gid = simp append_assoc

pub sizes-bytes : (size used fsid fileid : ℕ) (rdev : specdata3)
    → (hyper_pair.kind.write (size, used) ++ specdata.kind.write rdev) ++ hyper_pair.kind.write (fsid, fileid)
    ≡ sizes.kind.write (record { size = size; used = used; rdev = rdev; fsid = fsid; fileid = fileid })
unfolding sizes
sizes-bytes size used fsid fileid rdev = simp append_assoc

pub times-bytes : (atime mtime ctime : nfstime3)
    → nfstime.kind.write atime ++ (nfstime.kind.write mtime ++ nfstime.kind.write ctime)
    ≡ times.kind.write (record { atime = atime; mtime = mtime; ctime = ctime })
unfolding times
times-bytes atime mtime ctime = refl

pub wcc-attr-bytes : (m : wcc_attr)
    → hyper.kind.write m.size ++ (nfstime.kind.write m.mtime ++ nfstime.kind.write m.ctime) ≡ wcc-attr.kind.write m
unfolding wcc-attr
wcc-attr-bytes m = refl

pub wcc-data-bytes : (m : wcc_data)
    → pre-op-attr.kind.write m.before ++ post-op-attr.kind.write m.after ≡ wcc-data.kind.write m
unfolding wcc-data
wcc-data-bytes m = refl

pub transfer-bytes : (m : Transfer)
    → word.kind.write m.max ++ word_pair.kind.write (m.pref, m.mult) ≡ transfer.kind.write m
unfolding transfer
transfer-bytes m = refl

pub limits-bytes : (m : Limits)
    → (word.kind.write m.dtpref ++ hyper.kind.write m.maxfilesize) ++ (word.kind.write m.time_delta.seconds ++ word_pair.kind.write (m.time_delta.nseconds, m.properties)) ≡ limits.kind.write m
unfolding limits nfstime word_pair
limits-bytes m = simp append_assoc

pub fattr-bytes : (m : fattr3)
    → (ids.kind.write (record { ftype = m.ftype; mode = m.mode; nlink = m.nlink; uid = m.uid; gid = m.gid }) ++ sizes.kind.write (record { size = m.size; used = m.used; rdev = m.rdev; fsid = m.fsid; fileid = m.fileid })) ++ times.kind.write (record { atime = m.atime; mtime = m.mtime; ctime = m.ctime })
    ≡ fattr.kind.write m
unfolding fattr ids sizes times word_pair hyper_pair
fattr-bytes m = simp append_assoc

pub fsinfo-bytes : (m : fsinfo3)
    → post-op-attr.kind.write m.obj_attributes ++ ((transfer.kind.write (record { max = m.rtmax; pref = m.rtpref; mult = m.rtmult }) ++ transfer.kind.write (record { max = m.wtmax; pref = m.wtpref; mult = m.wtmult })) ++ limits.kind.write (record { dtpref = m.dtpref; maxfilesize = m.maxfilesize; time_delta = m.time_delta; properties = m.properties }))
    ≡ fsinfo.kind.write m
unfolding fsinfo transfer limits word_pair
fsinfo-bytes m = simp append_assoc

-- optional values
pub pre-optional : Optional wcc-attr pre_cases pre-op-attr
unfolding pre-op-attr
pre-optional = record { is = refl }

pub post-optional : Optional fattr post_cases post-op-attr
unfolding post-op-attr
post-optional = record { is = refl }

-- ranges
pub pre-op-attr-between : (v : pre_op_attr) → Between 4 28 (length (pre-op-attr.kind.write v))
unfolding pre-op-attr
pre-op-attr-between v = maybe-between wcc-attr pre_cases wcc-attr-fixed v

pub post-op-attr-between : (v : post_op_attr) → Between 4 88 (length (post-op-attr.kind.write v))
unfolding post-op-attr
post-op-attr-between v = maybe-between fattr post_cases fattr-fixed v

pub wcc-data-length : (m : wcc_data)
    → length (wcc-data.kind.write m) ≡ length (pre-op-attr.kind.write m.before) + length (post-op-attr.kind.write m.after)
wcc-data-length m = ap length (sym (wcc-data-bytes m)) ∙ length-append (pre-op-attr.kind.write m.before) (post-op-attr.kind.write m.after)

pub wcc-data-size : (n k : ℕ) (m : wcc_data) → n ≡ length (pre-op-attr.kind.write m.before) → k ≡ length (post-op-attr.kind.write m.after) → n + k ≡ length (wcc-data.kind.write m)
wcc-data-size n k m e f = omega (arith, wcc-data-length m)

pub wcc-data-between : (m : wcc_data) → Between 8 116 (length (wcc-data.kind.write m))
wcc-data-between m =
    let a = pre-op-attr-between m.before in
    let b = post-op-attr-between m.after in
    record { least = omega (arith, wcc-data-length m); greatest = omega (arith, wcc-data-length m) }

pub fsinfo-length : (m : fsinfo3) → length (fsinfo.kind.write m) ≡ length (post-op-attr.kind.write m.obj_attributes) + 48
fsinfo-length m =
    ap length (sym (fsinfo-bytes m)) ∙ length-append (post-op-attr.kind.write m.obj_attributes) _ ∙ ap (λ k. length (post-op-attr.kind.write m.obj_attributes) + k) (sym (bounds-size _ _ _))

pub fsinfo-size : (n : ℕ) (m : fsinfo3) → n ≡ length (post-op-attr.kind.write m.obj_attributes) → n + 48 ≡ length (fsinfo.kind.write m)
fsinfo-size n m e = omega (arith, fsinfo-length m)

-- each is far below the limit
pub pre-op-attr-small : (v : pre_op_attr) → length (pre-op-attr.kind.write v) ≤ most
pre-op-attr-small v = omega (arith, pre-op-attr-between v)

pub post-op-attr-small : (v : post_op_attr) → length (post-op-attr.kind.write v) ≤ most
post-op-attr-small v = omega (arith, post-op-attr-between v)

pub wcc-data-small : (v : wcc_data) → length (wcc-data.kind.write v) ≤ most
wcc-data-small v = omega (arith, wcc-data-between v)

pub fsinfo-small : (v : fsinfo3) → length (fsinfo.kind.write v) ≤ most
fsinfo-small v = omega (arith, fsinfo-length v, post-op-attr-between v.obj_attributes)

-- fsinfo3 is 52 bytes without attributes, and 136 with them
pub fsinfo-void : (m : fsinfo3) → m.obj_attributes ≡ post.Void → length (fsinfo.kind.write m) ≡ 52
unfolding post-op-attr
fsinfo-void m e = omega (arith, fsinfo-length m, maybe-length fattr post_cases fattr-fixed none e)

pub fsinfo-attributes : (m : fsinfo3) {a : fattr3} → m.obj_attributes ≡ post.attributes a → length (fsinfo.kind.write m) ≡ 136
unfolding post-op-attr
fsinfo-attributes m {a} e = omega (arith, fsinfo-length m, maybe-length fattr post_cases fattr-fixed (some a) e)
