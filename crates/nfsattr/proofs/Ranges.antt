-- Ranges: every value of a declared type means a message in range. `Is the_row m vs` is what owning a parameter m of the type tells: the
-- ranges of its numbers are fields of it, which `search` finds.
-- Assumes nothing.
use mathlib.Core.List.{List}
use native.Mathlib.Omega.{arith}
use mir.Val.{Val}
use denote.Laws.{Is}
use Rattle.xdr.specs.Laws.Ranges.{word_good, hyper-good, flag-good}
use Rattle.nfsattr.specs.Meaning.Attr.{ftype, specdata, nfstime, fattr, wcc-attr, pre-op-attr, post-op-attr, wcc-data, fsinfo}
use Rattle.nfsattr.specs.declared.attr.ftype3.{ftype3}
use Rattle.nfsattr.specs.declared.attr.specdata3.{specdata3}
use Rattle.nfsattr.specs.declared.attr.nfstime3.{nfstime3}
use Rattle.nfsattr.specs.declared.attr.fattr3.{fattr3}
use Rattle.nfsattr.specs.declared.attr.wcc_attr.{wcc_attr}
use Rattle.nfsattr.specs.declared.attr.pre_op_attr.{pre_op_attr}
use Rattle.nfsattr.specs.declared.attr.post_op_attr.{post_op_attr}
use Rattle.nfsattr.specs.declared.attr.wcc_data.{wcc_data}
use Rattle.nfsattr.specs.declared.attr.fsinfo3.{fsinfo3}
use Rattle.nfsattr.specs.declared.attr.ftype3.TheVariants.{NF3REG, NF3DIR, NF3BLK, NF3CHR, NF3LNK, NF3SOCK, NF3FIFO}
use Rattle.nfsattr.specs.Meaning.Stat.{nfsstat}
use Rattle.nfsattr.specs.declared.stat.nfsstat3.{nfsstat3}
use Rattle.nfsattr.specs.declared.stat.nfsstat3.TheVariants.{NFS3_OK, Failed}
use Rattle.nfsattr.specs.declared.stat.nfsfail3.TheVariants.{NFS3ERR_PERM, NFS3ERR_NOENT, NFS3ERR_IO, NFS3ERR_NXIO, NFS3ERR_ACCES, NFS3ERR_EXIST, NFS3ERR_XDEV, NFS3ERR_NODEV, NFS3ERR_NOTDIR, NFS3ERR_ISDIR, NFS3ERR_INVAL, NFS3ERR_FBIG, NFS3ERR_NOSPC, NFS3ERR_ROFS, NFS3ERR_MLINK, NFS3ERR_NAMETOOLONG, NFS3ERR_NOTEMPTY, NFS3ERR_DQUOT, NFS3ERR_STALE, NFS3ERR_REMOTE, NFS3ERR_BADHANDLE, NFS3ERR_NOT_SYNC, NFS3ERR_BAD_COOKIE, NFS3ERR_NOTSUPP, NFS3ERR_TOOSMALL, NFS3ERR_SERVERFAULT, NFS3ERR_BADTYPE, NFS3ERR_JUKEBOX}
use Rattle.nfsattr.specs.declared.attr.pre_op_attr.TheVariants as pre
use Rattle.nfsattr.specs.declared.attr.post_op_attr.TheVariants as post
use Rattle.nfsattr.specs.contracts.attr.specdata3 as specdata3·
use Rattle.nfsattr.specs.contracts.attr.nfstime3 as nfstime3·
use Rattle.nfsattr.specs.contracts.attr.fattr3 as fattr3·
use Rattle.nfsattr.specs.contracts.attr.wcc_attr as wcc-attr·
use Rattle.nfsattr.specs.contracts.attr.pre_op_attr as pre-op-attr·
use Rattle.nfsattr.specs.contracts.attr.post_op_attr as post-op-attr·
use Rattle.nfsattr.specs.contracts.attr.wcc_data as wcc-data·
use Rattle.nfsattr.specs.contracts.attr.fsinfo3 as fsinfo3·

-- with no number of the source's in them
pub nfsstat-good : (a : nfsstat3) → nfsstat.kind.Good a
unfolding nfsstat
nfsstat-good NFS3_OK = word_good _ (omega arith)
nfsstat-good (Failed NFS3ERR_PERM) = word_good _ (omega arith)
nfsstat-good (Failed NFS3ERR_NOENT) = word_good _ (omega arith)
nfsstat-good (Failed NFS3ERR_IO) = word_good _ (omega arith)
nfsstat-good (Failed NFS3ERR_NXIO) = word_good _ (omega arith)
nfsstat-good (Failed NFS3ERR_ACCES) = word_good _ (omega arith)
nfsstat-good (Failed NFS3ERR_EXIST) = word_good _ (omega arith)
nfsstat-good (Failed NFS3ERR_XDEV) = word_good _ (omega arith)
nfsstat-good (Failed NFS3ERR_NODEV) = word_good _ (omega arith)
nfsstat-good (Failed NFS3ERR_NOTDIR) = word_good _ (omega arith)
nfsstat-good (Failed NFS3ERR_ISDIR) = word_good _ (omega arith)
nfsstat-good (Failed NFS3ERR_INVAL) = word_good _ (omega arith)
nfsstat-good (Failed NFS3ERR_FBIG) = word_good _ (omega arith)
nfsstat-good (Failed NFS3ERR_NOSPC) = word_good _ (omega arith)
nfsstat-good (Failed NFS3ERR_ROFS) = word_good _ (omega arith)
nfsstat-good (Failed NFS3ERR_MLINK) = word_good _ (omega arith)
nfsstat-good (Failed NFS3ERR_NAMETOOLONG) = word_good _ (omega arith)
nfsstat-good (Failed NFS3ERR_NOTEMPTY) = word_good _ (omega arith)
nfsstat-good (Failed NFS3ERR_DQUOT) = word_good _ (omega arith)
nfsstat-good (Failed NFS3ERR_STALE) = word_good _ (omega arith)
nfsstat-good (Failed NFS3ERR_REMOTE) = word_good _ (omega arith)
nfsstat-good (Failed NFS3ERR_BADHANDLE) = word_good _ (omega arith)
nfsstat-good (Failed NFS3ERR_NOT_SYNC) = word_good _ (omega arith)
nfsstat-good (Failed NFS3ERR_BAD_COOKIE) = word_good _ (omega arith)
nfsstat-good (Failed NFS3ERR_NOTSUPP) = word_good _ (omega arith)
nfsstat-good (Failed NFS3ERR_TOOSMALL) = word_good _ (omega arith)
nfsstat-good (Failed NFS3ERR_SERVERFAULT) = word_good _ (omega arith)
nfsstat-good (Failed NFS3ERR_BADTYPE) = word_good _ (omega arith)
nfsstat-good (Failed NFS3ERR_JUKEBOX) = word_good _ (omega arith)

pub ftype-good : (a : ftype3) → ftype.kind.Good a
unfolding ftype
ftype-good NF3REG = word_good _ (omega arith)
ftype-good NF3DIR = word_good _ (omega arith)
ftype-good NF3BLK = word_good _ (omega arith)
ftype-good NF3CHR = word_good _ (omega arith)
ftype-good NF3LNK = word_good _ (omega arith)
ftype-good NF3SOCK = word_good _ (omega arith)
ftype-good NF3FIFO = word_good _ (omega arith)

-- the numbers of the source, each in its range
pub ruleset goods = (word_good, hyper-good, flag-good, ftype-good)

pub specdata-good : (m : specdata3) {vs : List Val} → Is specdata3·.the_row m vs → specdata.kind.Good m
unfolding specdata
specdata-good m p = search goods

pub nfstime-good : (m : nfstime3) {vs : List Val} → Is nfstime3·.the_row m vs → nfstime.kind.Good m
unfolding nfstime
nfstime-good m p = search goods

pub fattr-good : (m : fattr3) {vs : List Val} → Is fattr3·.the_row m vs → fattr.kind.Good m
unfolding fattr
fattr-good m p = search (goods, specdata-good, nfstime-good) depth 20

pub wcc-attr-good : (m : wcc_attr) {vs : List Val} → Is wcc-attr·.the_row m vs → wcc-attr.kind.Good m
unfolding wcc-attr
wcc-attr-good m p = search (goods, nfstime-good)

pub pre-op-attr-good : (m : pre_op_attr) {vs : List Val} → Is pre-op-attr·.the_row m vs → pre-op-attr.kind.Good m
unfolding pre-op-attr
pre-op-attr-good pre.Void p = search goods
pre-op-attr-good (pre.attributes v) p = search (goods, wcc-attr-good)

pub post-op-attr-good : (m : post_op_attr) {vs : List Val} → Is post-op-attr·.the_row m vs → post-op-attr.kind.Good m
unfolding post-op-attr
post-op-attr-good post.Void p = search goods
post-op-attr-good (post.attributes v) p = search (goods, fattr-good)

pub wcc-data-good : (m : wcc_data) {vs : List Val} → Is wcc-data·.the_row m vs → wcc-data.kind.Good m
unfolding wcc-data
wcc-data-good m p = search (pre-op-attr-good, post-op-attr-good)

pub fsinfo-good : (m : fsinfo3) {vs : List Val} → Is fsinfo3·.the_row m vs → fsinfo.kind.Good m
unfolding fsinfo
fsinfo-good m p = search (goods, nfstime-good, post-op-attr-good) depth 20
