-- How many bytes the kinds take, and that no rewriting is longer than the bytes read.
-- Assumes nothing.
use Rattle.xdr.specs.Meaning.Codecs.{◌⨾◌}
use Rattle.xdr.specs.Meaning.Items.{word, hyper, option}
use Rattle.xdr.specs.Laws.Lengths.{Lengths, Within, pair-within, pair-lengths, view-within, view-lengths, no_default, word-lengths, word-within, hyper-lengths, hyper-within, closed-lengths, closed-within, option-lengths, option-within}
use Rattle.nfsattr.specs.Meaning.Stat.{nfsstat, stat_number, statuses, each_stat}
use Rattle.nfsattr.specs.Meaning.Attr.{ftype, ftype_number, ftypes, each_ftype, specdata, nfstime, fattr, wcc-attr, pre-op-attr, post-op-attr, wcc-data, fsinfo}
use Rattle.nfsattr.specs.Laws.Groups.{fattr-list, fsinfo-list}

pub nfsstat-within : Within 0 nfsstat.kind
unfolding nfsstat
nfsstat-within = closed-within stat_number statuses each_stat

pub ftype-lengths : Lengths 4 4 ftype.kind
unfolding ftype
ftype-lengths = closed-lengths ftype_number ftypes each_ftype

pub ftype-within : Within 0 ftype.kind
unfolding ftype
ftype-within = closed-within ftype_number ftypes each_ftype

pub specdata-lengths : Lengths 8 8 specdata.kind
unfolding specdata
specdata-lengths = view-lengths (pair-lengths word-lengths word-lengths)

pub specdata-within : Within 0 specdata.kind
unfolding specdata
specdata-within = view-within _ _ (word ⨾ word).laws (pair-within word-within word-within) (λ x m l u w e s f. no_default s)

pub nfstime-lengths : Lengths 8 8 nfstime.kind
unfolding nfstime
nfstime-lengths = view-lengths (pair-lengths word-lengths word-lengths)

pub nfstime-within : Within 0 nfstime.kind
unfolding nfstime
nfstime-within = view-within _ _ (word ⨾ word).laws (pair-within word-within word-within) (λ x m l u w e s f. no_default s)

pub fattr-lengths : Lengths 84 84 fattr.kind
unfolding fattr
fattr-lengths =
    view-lengths
    (pair-lengths ftype-lengths (pair-lengths word-lengths (pair-lengths word-lengths (pair-lengths word-lengths (pair-lengths word-lengths
    (pair-lengths hyper-lengths (pair-lengths hyper-lengths (pair-lengths specdata-lengths (pair-lengths hyper-lengths (pair-lengths hyper-lengths
    (pair-lengths nfstime-lengths (pair-lengths nfstime-lengths nfstime-lengths))))))))))))

pub fattr-within : Within 0 fattr.kind
unfolding fattr
fattr-within =
    view-within _ _ fattr-list.laws
    (pair-within ftype-within (pair-within word-within (pair-within word-within (pair-within word-within (pair-within word-within
    (pair-within hyper-within (pair-within hyper-within (pair-within specdata-within (pair-within hyper-within (pair-within hyper-within
    (pair-within nfstime-within (pair-within nfstime-within nfstime-within))))))))))))
    (λ x m l u w e s f. no_default s)

pub wcc-attr-lengths : Lengths 24 24 wcc-attr.kind
unfolding wcc-attr
wcc-attr-lengths = view-lengths (pair-lengths hyper-lengths (pair-lengths nfstime-lengths nfstime-lengths))

pub wcc-attr-within : Within 0 wcc-attr.kind
unfolding wcc-attr
wcc-attr-within =
    view-within _ _ (hyper ⨾ nfstime ⨾ nfstime).laws (pair-within hyper-within (pair-within nfstime-within nfstime-within)) (λ x m l u w e s f. no_default s)

pub pre-op-attr-lengths : Lengths 4 28 pre-op-attr.kind
unfolding pre-op-attr
pre-op-attr-lengths = view-lengths (option-lengths wcc-attr wcc-attr-lengths)

pub pre-op-attr-within : Within 0 pre-op-attr.kind
unfolding pre-op-attr
pre-op-attr-within = view-within _ _ (option wcc-attr).laws (option-within wcc-attr wcc-attr-within) (λ x m l u w e s f. no_default s)

pub post-op-attr-lengths : Lengths 4 88 post-op-attr.kind
unfolding post-op-attr
post-op-attr-lengths = view-lengths (option-lengths fattr fattr-lengths)

pub post-op-attr-within : Within 0 post-op-attr.kind
unfolding post-op-attr
post-op-attr-within = view-within _ _ (option fattr).laws (option-within fattr fattr-within) (λ x m l u w e s f. no_default s)

pub wcc-data-lengths : Lengths 8 116 wcc-data.kind
unfolding wcc-data
wcc-data-lengths = view-lengths (pair-lengths pre-op-attr-lengths post-op-attr-lengths)

pub wcc-data-within : Within 0 wcc-data.kind
unfolding wcc-data
wcc-data-within = view-within _ _ (pre-op-attr ⨾ post-op-attr).laws (pair-within pre-op-attr-within post-op-attr-within) (λ x m l u w e s f. no_default s)

pub fsinfo-lengths : Lengths 52 136 fsinfo.kind
unfolding fsinfo
fsinfo-lengths =
    view-lengths
    (pair-lengths post-op-attr-lengths
    (pair-lengths word-lengths (pair-lengths word-lengths (pair-lengths word-lengths
    (pair-lengths word-lengths (pair-lengths word-lengths (pair-lengths word-lengths
    (pair-lengths word-lengths (pair-lengths hyper-lengths (pair-lengths nfstime-lengths word-lengths))))))))))

pub fsinfo-within : Within 0 fsinfo.kind
unfolding fsinfo
fsinfo-within =
    view-within _ _ fsinfo-list.laws
    (pair-within post-op-attr-within
    (pair-within word-within (pair-within word-within (pair-within word-within
    (pair-within word-within (pair-within word-within (pair-within word-within
    (pair-within word-within (pair-within hyper-within (pair-within nfstime-within word-within))))))))))
    (λ x m l u w e s f. no_default s)
