-- How many bytes each fixed kind has.
-- Assumes nothing.
use Rattle.nfsattr.specs.Meaning.Stat.{nfsstat}
use Rattle.nfsattr.specs.Meaning.Attr.{ftype, specdata, nfstime, fattr, wcc-attr}
use Rattle.nfsattr.specs.Laws.Groups.{ids, sizes, times, transfer, limits}
use Rattle.xdr.specs.Laws.Fixed.{Fixed, word-fixed, hyper-fixed, pair-fixed, seen-fixed, word-pair-fixed, hyper-pair-fixed}

pub nfsstat-fixed : Fixed 4 nfsstat
unfolding nfsstat
nfsstat-fixed = seen-fixed word-fixed _ _ _ _

pub ftype-fixed : Fixed 4 ftype
unfolding ftype
ftype-fixed = seen-fixed word-fixed _ _ _ _

pub specdata-fixed : Fixed 8 specdata
unfolding specdata
specdata-fixed = seen-fixed (pair-fixed word-fixed word-fixed) _ _ _ _

pub nfstime-fixed : Fixed 8 nfstime
unfolding nfstime
nfstime-fixed = seen-fixed (pair-fixed word-fixed word-fixed) _ _ _ _

pub ids-fixed : Fixed 20 ids
unfolding ids
ids-fixed = seen-fixed (pair-fixed ftype-fixed (pair-fixed word-pair-fixed word-pair-fixed)) _ _ _ _

pub sizes-fixed : Fixed 40 sizes
unfolding sizes
sizes-fixed = seen-fixed (pair-fixed hyper-pair-fixed (pair-fixed specdata-fixed hyper-pair-fixed)) _ _ _ _

pub times-fixed : Fixed 24 times
unfolding times
times-fixed = seen-fixed (pair-fixed nfstime-fixed (pair-fixed nfstime-fixed nfstime-fixed)) _ _ _ _

pub fattr-fixed : Fixed 84 fattr
unfolding fattr
fattr-fixed =
    seen-fixed
    (pair-fixed ftype-fixed (pair-fixed word-fixed (pair-fixed word-fixed (pair-fixed word-fixed (pair-fixed word-fixed
    (pair-fixed hyper-fixed (pair-fixed hyper-fixed (pair-fixed specdata-fixed (pair-fixed hyper-fixed (pair-fixed hyper-fixed
    (pair-fixed nfstime-fixed (pair-fixed nfstime-fixed nfstime-fixed)))))))))))) _ _ _ _

pub wcc-attr-fixed : Fixed 24 wcc-attr
unfolding wcc-attr
wcc-attr-fixed = seen-fixed (pair-fixed hyper-fixed (pair-fixed nfstime-fixed nfstime-fixed)) _ _ _ _

pub transfer-fixed : Fixed 12 transfer
unfolding transfer
transfer-fixed = seen-fixed (pair-fixed word-fixed word-pair-fixed) _ _ _ _

pub limits_fixed : Fixed 24 limits
unfolding limits
limits_fixed = seen-fixed (pair-fixed word-fixed (pair-fixed hyper-fixed (pair-fixed nfstime-fixed word-fixed))) _ _ _ _
