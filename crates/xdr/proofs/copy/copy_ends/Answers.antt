use Rattle.xdr.specs.Laws.Copying.{two_ends}
use borrow.Author.Rules.{rules}
use Rattle.xdr.proofs.copy.copy_ends.Goals as goal

pub returns : goal.returns
returns g c = search (rules, two_ends)
