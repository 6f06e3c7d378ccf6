use Rattle.nfs.specs.Meaning.Set.{set-mtime, mtime_cases}
use Rattle.nfs.specs.Laws.Tags.{tag-lost, tag-off, tag-dont, tag-server, tag-client, tag-other}
use Rattle.xdr.specs.Laws.Answers.{tries, exit}
use Rattle.nfs.proofs.inner.set.set_mtime_at.Goals as goal

pub returns-in_err-tag : goal.returns-in_err-tag
unfolding set-mtime
returns-in_err-tag c = search (tag-lost mtime_cases, tries, exit c.from_residual.ensures.1)

pub returns-in-0 : goal.returns-in-0
unfolding set-mtime
returns-in-0 c = search (tag-dont mtime_cases)

pub returns-in-1 : goal.returns-in-1
unfolding set-mtime
returns-in-1 c = search (tag-server mtime_cases)

pub returns-in_err-t-in-2 : goal.returns-in_err-t-in-2
unfolding set-mtime
returns-in_err-t-in-2 c = search (tag-off mtime_cases, tries, exit c.from_residual-in_err-t-in-2.ensures.1)

pub returns-in_ok-t-in-2 : goal.returns-in_ok-t-in-2
unfolding set-mtime
returns-in_ok-t-in-2 c = search (tag-client mtime_cases)

pub returns-in_default : goal.returns-in_default
unfolding set-mtime
returns-in_default c = search (tag-other mtime_cases)
