use Rattle.xdr.specs.Laws.Tags.{tag-lost, tag-none, tag_is}
use Rattle.xdr.specs.Laws.Answers.{tries, exit}
use Rattle.nfs.specs.Meaning.Set.{time_how, how_number, hows, each_how}
use Rattle.nfs.proofs.inner.set.time_how_at.Goals as goal

pub returns-in_err-v : goal.returns-in_err-v
unfolding time_how
returns-in_err-v c = search (tag-lost how_number hows each_how, tries, exit c.from_residual.ensures.1)

pub returns-in_default : goal.returns-in_default
unfolding time_how
returns-in_default c = search (tag-none how_number hows each_how, tries)

pub returns : goal.returns
unfolding time_how
returns c = search (tag_is how_number hows each_how, tries)
