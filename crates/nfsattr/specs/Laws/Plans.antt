-- How each kind is read, and the steps of a plan for each type of answer.
-- Assumes nothing.
use Rattle.xdr.specs.Meaning.Items.{word, hyper, word_pair, hyper_pair}
use Rattle.xdr.specs.Laws.Plans.{◌next◌, step, asks}
use Rattle.xdr.specs.Laws.Records.{ByPlan, fields, one, still}
use Rattle.xdr.specs.Laws.Pairs.{two-words}
use Rattle.xdr.specs.Laws.Optional.{maybe-plan}
use Rattle.nfsattr.specs.Meaning.Attr.{ftype, specdata, nfstime, fattr, wcc-attr, pre-op-attr, pre_cases, post-op-attr, post_cases, wcc-data, fsinfo}
use Rattle.nfsattr.specs.Laws.Groups.{ids, sizes, times, transfer, limits, fattr-groups, fsinfo-groups}

-- the kinds
abbrev pub specdata-plan : ByPlan specdata
unfolding specdata
specdata-plan = fields two-words _ _ _ _

abbrev pub nfstime-plan : ByPlan nfstime
unfolding nfstime
nfstime-plan = fields two-words _ _ _ _

abbrev pub ids-plan : ByPlan ids
unfolding ids
ids-plan = fields (one ftype next one word_pair next one word_pair) _ _ _ _

abbrev pub sizes-plan : ByPlan sizes
unfolding sizes
sizes-plan = fields (one hyper_pair next one specdata next one hyper_pair) _ _ _ _

abbrev pub times-plan : ByPlan times
unfolding times
times-plan = fields (one nfstime next one nfstime next one nfstime) _ _ _ _

abbrev pub fattr-plan : ByPlan fattr
unfolding fattr
fattr-plan = fields fattr-groups _ _ _ _

abbrev pub wcc-attr-plan : ByPlan wcc-attr
unfolding wcc-attr
wcc-attr-plan = fields (one hyper next one nfstime next one nfstime) _ _ _ _

abbrev pub pre-op-attr-plan : ByPlan pre-op-attr
unfolding pre-op-attr
pre-op-attr-plan = maybe-plan wcc-attr pre_cases

abbrev pub post-op-attr-plan : ByPlan post-op-attr
unfolding post-op-attr
post-op-attr-plan = maybe-plan fattr post_cases

abbrev pub wcc-data-plan : ByPlan wcc-data
unfolding wcc-data
wcc-data-plan = fields (one pre-op-attr next one post-op-attr) _ _ _ _

abbrev pub transfer-plan : ByPlan transfer
unfolding transfer
transfer-plan = fields (one word next one word_pair) _ _ _ _

abbrev pub limits-plan : ByPlan limits
unfolding limits
limits-plan = fields (one word next one hyper next one nfstime next one word) _ _ _ _

abbrev pub fsinfo-plan : ByPlan fsinfo
unfolding fsinfo
fsinfo-plan = fields fsinfo-groups _ _ _ _

pub ruleset attr-asks = (asks, still)
