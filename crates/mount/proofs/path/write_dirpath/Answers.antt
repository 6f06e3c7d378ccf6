use borrow.Author.Rules.{rules}
use Rattle.xdr.specs.Laws.Answers.{tries, exit}
use Rattle.mount.specs.Laws.Path.{path-writes, path-refused, path-long}
use Rattle.mount.proofs.path.write_dirpath.Goals as goal

pub returns-then-x-le-MNTPATHLEN : goal.returns-then-x-le-MNTPATHLEN
returns-then-x-le-MNTPATHLEN c = search (rules, path-writes)

pub returns-in_err-place : goal.returns-in_err-place
returns-in_err-place c = search (rules, tries, path-refused, exit c.from_residual.ensures.1)

pub returns : goal.returns
returns c = search (rules, path-long, c.in_ok-place.was)
