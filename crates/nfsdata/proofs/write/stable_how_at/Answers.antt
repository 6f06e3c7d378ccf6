-- made by tools/generate from crates/nfsdata/rfc/write.x
use Rattle.xdr.specs.Laws.Tags.{tag-lost, tag-none, tag_is}
use Rattle.xdr.specs.Laws.Answers.{tries, exit}
use Rattle.nfsdata.specs.Meaning.Write.{stable-how, stable_how_number, stable_how_all, each_stable_how}
use Rattle.nfsdata.proofs.write.stable_how_at.Goals as goal

pub returns-in_err-v : goal.returns-in_err-v
unfolding stable-how
returns-in_err-v c = search (tag-lost stable_how_number stable_how_all each_stable_how, tries, exit c.from_residual.ensures.1)

pub returns-in_default : goal.returns-in_default
unfolding stable-how
returns-in_default c = search (tag-none stable_how_number stable_how_all each_stable_how, tries)

pub returns : goal.returns
unfolding stable-how
returns c = search (tag_is stable_how_number stable_how_all each_stable_how, tries)
