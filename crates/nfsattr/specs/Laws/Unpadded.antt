-- No kind of this crate has padding.
-- Assumes nothing.
use Rattle.std.specs.Prelude.{refl}
use Rattle.xdr.specs.Laws.Unpadded.{Unpadded, word-unpadded, hyper-unpadded, pair-unpadded, view-unpadded, closed-unpadded}
use Rattle.xdr.proofs.Flagged.{option-unpadded}
use Rattle.nfsattr.specs.Meaning.Stat.{nfsstat, stat_number, statuses, each_stat}
use Rattle.nfsattr.specs.Meaning.Attr.{ftype, ftype_number, ftypes, each_ftype, specdata, nfstime, fattr, wcc-attr, pre-op-attr, post-op-attr, wcc-data, fsinfo}

pub nfsstat-unpadded : Unpadded nfsstat.kind
unfolding nfsstat
nfsstat-unpadded = closed-unpadded stat_number statuses each_stat

pub ftype-unpadded : Unpadded ftype.kind
unfolding ftype
ftype-unpadded = closed-unpadded ftype_number ftypes each_ftype

pub specdata-unpadded : Unpadded specdata.kind
unfolding specdata
specdata-unpadded = view-unpadded (λ x. refl) (pair-unpadded word-unpadded word-unpadded)

pub nfstime-unpadded : Unpadded nfstime.kind
unfolding nfstime
nfstime-unpadded = view-unpadded (λ x. refl) (pair-unpadded word-unpadded word-unpadded)

pub fattr-unpadded : Unpadded fattr.kind
unfolding fattr
fattr-unpadded = view-unpadded (λ x. refl) (pair-unpadded ftype-unpadded (pair-unpadded word-unpadded (pair-unpadded word-unpadded (pair-unpadded word-unpadded (pair-unpadded word-unpadded (pair-unpadded hyper-unpadded (pair-unpadded hyper-unpadded (pair-unpadded specdata-unpadded (pair-unpadded hyper-unpadded (pair-unpadded hyper-unpadded (pair-unpadded nfstime-unpadded (pair-unpadded nfstime-unpadded nfstime-unpadded))))))))))))

pub wcc-attr-unpadded : Unpadded wcc-attr.kind
unfolding wcc-attr
wcc-attr-unpadded = view-unpadded (λ x. refl) (pair-unpadded hyper-unpadded (pair-unpadded nfstime-unpadded nfstime-unpadded))

pub pre-op-attr-unpadded : Unpadded pre-op-attr.kind
unfolding pre-op-attr
pre-op-attr-unpadded = view-unpadded (λ x. refl) (option-unpadded wcc-attr wcc-attr-unpadded)

pub post-op-attr-unpadded : Unpadded post-op-attr.kind
unfolding post-op-attr
post-op-attr-unpadded = view-unpadded (λ x. refl) (option-unpadded fattr fattr-unpadded)

pub wcc-data-unpadded : Unpadded wcc-data.kind
unfolding wcc-data
wcc-data-unpadded = view-unpadded (λ x. refl) (pair-unpadded pre-op-attr-unpadded post-op-attr-unpadded)

pub fsinfo-unpadded : Unpadded fsinfo.kind
unfolding fsinfo
fsinfo-unpadded = view-unpadded (λ x. refl) (pair-unpadded post-op-attr-unpadded (pair-unpadded word-unpadded (pair-unpadded word-unpadded (pair-unpadded word-unpadded (pair-unpadded word-unpadded (pair-unpadded word-unpadded (pair-unpadded word-unpadded (pair-unpadded word-unpadded (pair-unpadded hyper-unpadded (pair-unpadded nfstime-unpadded word-unpadded))))))))))
