use borrow.Author.Rules.{rules}
use Rattle.xdr.specs.Laws.Answers.{tries, exits}
use Rattle.mount.specs.Laws.Path.{path-off, path-kept, path-over}
use Rattle.mount.proofs.path.dirpath_at.Goals as goal

pub returns-in_err-path : goal.returns-in_err-path
returns-in_err-path c = exits _ c.from_residual.ensures.1 (search (rules, tries, path-off))

pub returns-then-path-gt-MNTPATHLEN : goal.returns-then-path-gt-MNTPATHLEN
returns-then-path-gt-MNTPATHLEN c = search (rules, tries, path-over)

pub returns : goal.returns
returns c = search (rules, tries, path-kept)
