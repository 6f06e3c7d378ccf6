-- Attributes (RFC 1813, sections 2.5, 2.6 and 3.3.19).
-- Assumes nothing.
use Rattle.std.specs.Prelude.{◌≡◌, refl, List, [], ◌∷◌, ℕ}
use Rattle.std.proofs.Math.Option.{Option, none, some}
use Rattle.xdr.specs.Meaning.Kind.{Codec}
use Rattle.xdr.specs.Meaning.Combinators.{means}
use Rattle.xdr.specs.Meaning.Codecs.{◌⨾◌, mapped}
use Rattle.xdr.specs.Meaning.Items.{word, hyper, closed}
use Rattle.xdr.specs.Meaning.Combinators.{among}
use Rattle.xdr.specs.Meaning.Cases.{Cases, maybe}
use Rattle.nfsattr.specs.declared.attr.ftype3.{ftype3}
use Rattle.nfsattr.specs.declared.attr.ftype3.TheVariants.{NF3REG, NF3DIR, NF3BLK, NF3CHR, NF3LNK, NF3SOCK, NF3FIFO}
use Rattle.nfsattr.specs.declared.attr.specdata3.{specdata3}
use Rattle.nfsattr.specs.declared.attr.nfstime3.{nfstime3}
use Rattle.nfsattr.specs.declared.attr.fattr3.{fattr3}
use Rattle.nfsattr.specs.declared.attr.wcc_attr.{wcc_attr}
use Rattle.nfsattr.specs.declared.attr.pre_op_attr.{pre_op_attr}
use Rattle.nfsattr.specs.declared.attr.post_op_attr.{post_op_attr}
use Rattle.nfsattr.specs.declared.attr.wcc_data.{wcc_data}
use Rattle.nfsattr.specs.declared.attr.fsinfo3.{fsinfo3}
use Rattle.nfsattr.specs.declared.attr.pre_op_attr.TheVariants as pre
use Rattle.nfsattr.specs.declared.attr.post_op_attr.TheVariants as post

-- ftype3: 1 to 7
abbrev pub ftype_number : ftype3 → ℕ
ftype_number NF3REG = 1
ftype_number NF3DIR = 2
ftype_number NF3BLK = 3
ftype_number NF3CHR = 4
ftype_number NF3LNK = 5
ftype_number NF3SOCK = 6
ftype_number NF3FIFO = 7

abbrev pub ftypes : List ftype3
ftypes = NF3REG ∷ NF3DIR ∷ NF3BLK ∷ NF3CHR ∷ NF3LNK ∷ NF3SOCK ∷ NF3FIFO ∷ []

pub each_ftype : (a : ftype3) → among ftype_number ftypes (ftype_number a) ≡ means a []
each_ftype NF3REG = refl
each_ftype NF3DIR = refl
each_ftype NF3BLK = refl
each_ftype NF3CHR = refl
each_ftype NF3LNK = refl
each_ftype NF3SOCK = refl
each_ftype NF3FIFO = refl

unfoldable pub ftype : Codec ftype3
ftype = closed ftype_number ftypes each_ftype

-- specdata3
unfoldable pub specdata : Codec specdata3
specdata =
    mapped (word ⨾ word) (λ x. record { specdata1 = x.0; specdata2 = x.1 }) (λ m. (m.specdata1, m.specdata2))
    (λ x. refl) (λ m. refl)

-- nfstime3
unfoldable pub nfstime : Codec nfstime3
nfstime =
    mapped (word ⨾ word) (λ x. record { seconds = x.0; nseconds = x.1 }) (λ m. (m.seconds, m.nseconds))
    (λ x. refl) (λ m. refl)

-- fattr3. `(λ m. ..)` has the names in order, and `refl` holds the places in x to them; so for fsinfo3
unfoldable pub fattr : Codec fattr3
fattr =
    mapped (ftype ⨾ word ⨾ word ⨾ word ⨾ word ⨾ hyper ⨾ hyper ⨾ specdata ⨾ hyper ⨾ hyper ⨾ nfstime ⨾ nfstime ⨾ nfstime)
    (λ x.
    record {
      ftype = x.0;
      mode = x.1.0;
      nlink = x.1.1.0;
      uid = x.1.1.1.0;
      gid = x.1.1.1.1.0;
      size = x.1.1.1.1.1.0;
      used = x.1.1.1.1.1.1.0;
      rdev = x.1.1.1.1.1.1.1.0;
      fsid = x.1.1.1.1.1.1.1.1.0;
      fileid = x.1.1.1.1.1.1.1.1.1.0;
      atime = x.1.1.1.1.1.1.1.1.1.1.0;
      mtime = x.1.1.1.1.1.1.1.1.1.1.1.0;
      ctime = x.1.1.1.1.1.1.1.1.1.1.1.1;
    })
    (λ m. (m.ftype, (m.mode, (m.nlink, (m.uid, (m.gid, (m.size, (m.used, (m.rdev, (m.fsid, (m.fileid, (m.atime, (m.mtime, m.ctime)))))))))))))
    (λ x. refl) (λ m. refl)

-- wcc_attr
unfoldable pub wcc-attr : Codec wcc_attr
wcc-attr =
    mapped (hyper ⨾ nfstime ⨾ nfstime) (λ x. record { size = x.0; mtime = x.1.0; ctime = x.1.1 }) (λ m. (m.size, (m.mtime, m.ctime)))
    (λ x. refl) (λ m. refl)

-- pre_op_attr
abbrev pub pre_to : Option wcc_attr → pre_op_attr
pre_to none = pre.Void
pre_to (some a) = pre.attributes a

abbrev pub pre_from : pre_op_attr → Option wcc_attr
pre_from pre.Void = none
pre_from (pre.attributes a) = some a

pub pre_from_to : (x : Option wcc_attr) → pre_from (pre_to x) ≡ x
pre_from_to none = refl
pre_from_to (some a) = refl

pub pre_to_from : (y : pre_op_attr) → pre_to (pre_from y) ≡ y
pre_to_from pre.Void = refl
pre_to_from (pre.attributes a) = refl

abbrev pub pre_cases : Cases wcc_attr pre_op_attr
pre_cases = record { to = pre_to; from = pre_from; from_to = pre_from_to; to_from = pre_to_from }

unfoldable pub pre-op-attr : Codec pre_op_attr
pre-op-attr = maybe wcc-attr pre_cases

-- post_op_attr
abbrev pub post_to : Option fattr3 → post_op_attr
post_to none = post.Void
post_to (some a) = post.attributes a

abbrev pub post_from : post_op_attr → Option fattr3
post_from post.Void = none
post_from (post.attributes a) = some a

pub post_from_to : (x : Option fattr3) → post_from (post_to x) ≡ x
post_from_to none = refl
post_from_to (some a) = refl

pub post_to_from : (y : post_op_attr) → post_to (post_from y) ≡ y
post_to_from post.Void = refl
post_to_from (post.attributes a) = refl

abbrev pub post_cases : Cases fattr3 post_op_attr
post_cases = record { to = post_to; from = post_from; from_to = post_from_to; to_from = post_to_from }

unfoldable pub post-op-attr : Codec post_op_attr
post-op-attr = maybe fattr post_cases

-- wcc_data
unfoldable pub wcc-data : Codec wcc_data
wcc-data =
    mapped (pre-op-attr ⨾ post-op-attr) (λ x. record { before = x.0; after = x.1 }) (λ m. (m.before, m.after))
    (λ x. refl) (λ m. refl)

-- fsinfo3 (FSINFO3resok)
unfoldable pub fsinfo : Codec fsinfo3
fsinfo =
    mapped (post-op-attr ⨾ word ⨾ word ⨾ word ⨾ word ⨾ word ⨾ word ⨾ word ⨾ hyper ⨾ nfstime ⨾ word)
    (λ x.
    record {
      obj_attributes = x.0;
      rtmax = x.1.0;
      rtpref = x.1.1.0;
      rtmult = x.1.1.1.0;
      wtmax = x.1.1.1.1.0;
      wtpref = x.1.1.1.1.1.0;
      wtmult = x.1.1.1.1.1.1.0;
      dtpref = x.1.1.1.1.1.1.1.0;
      maxfilesize = x.1.1.1.1.1.1.1.1.0;
      time_delta = x.1.1.1.1.1.1.1.1.1.0;
      properties = x.1.1.1.1.1.1.1.1.1.1;
    })
    (λ m. (m.obj_attributes, (m.rtmax, (m.rtpref, (m.rtmult, (m.wtmax, (m.wtpref, (m.wtmult, (m.dtpref, (m.maxfilesize, (m.time_delta, m.properties)))))))))))
    (λ x. refl) (λ m. refl)
