use borrow.Author.Rules.{rules}
use Rattle.xdr.specs.Laws.Tags.{tag-lost, tag-none, tag_is}
use Rattle.nfsattr.specs.Meaning.Stat.{stat_number, statuses, each_stat, nfsstat}
use Rattle.xdr.specs.Laws.Answers.{tries, exit}
use Rattle.nfsattr.proofs.inner.stat.nfsstat3_at.Goals as goal

pub returns-in_err-v : goal.returns-in_err-v
unfolding nfsstat
returns-in_err-v c = search (tag-lost stat_number statuses each_stat, tag-none stat_number statuses each_stat, tag_is stat_number statuses each_stat, rules, tries, exit c.from_residual.ensures.1)

pub returns-in_default : goal.returns-in_default
unfolding nfsstat
returns-in_default c = search (tag-lost stat_number statuses each_stat, tag-none stat_number statuses each_stat, tag_is stat_number statuses each_stat, rules, tries)

pub returns : goal.returns
unfolding nfsstat
returns c = search (tag-lost stat_number statuses each_stat, tag-none stat_number statuses each_stat, tag_is stat_number statuses each_stat, rules, tries)
