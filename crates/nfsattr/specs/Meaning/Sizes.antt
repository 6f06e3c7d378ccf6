-- The sizes of the kinds of one size: each constant is the size of its kind.
-- Assumes nothing.
use Rattle.xdr.specs.Meaning.Sizes.{OfSize}
use Rattle.nfsattr.specs.Meaning.Stat.{nfsstat}
use Rattle.nfsattr.specs.Meaning.Attr.{ftype, specdata, nfstime, fattr, wcc-attr}
use Rattle.nfsattr.specs.declared.sizes.FixedSizes.{FixedSizes}

pub record SizesHold (r : FixedSizes) : Type 0 where
  pub nfsstat3 : OfSize r.nfsstat3 nfsstat
  pub ftype3 : OfSize r.ftype3 ftype
  pub specdata3 : OfSize r.specdata3 specdata
  pub nfstime3 : OfSize r.nfstime3 nfstime
  pub fattr3 : OfSize r.fattr3 fattr
  pub wcc_attr : OfSize r.wcc_attr wcc-attr
