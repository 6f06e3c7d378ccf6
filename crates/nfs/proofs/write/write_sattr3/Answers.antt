use borrow.Author.Rules.{rules}
use Rattle.xdr.specs.Laws.Writers.{plain-on}
use Rattle.xdr.specs.Laws.Lays.{rooms}
use Rattle.xdr.specs.Laws.Answers.{tries, exit}
use Rattle.xdr.proofs.Refused.{plain-off}
use Rattle.nfs.proofs.Ranges.{sattr-good}
use Rattle.nfs.specs.Laws.Bytes.{sattr-small}
use Rattle.nfs.specs.Meaning.Set.{sattr}
use Rattle.nfs.proofs.write.write_sattr3.Goals as goal

pub returns-in_err-end : goal.returns-in_err-end
returns-in_err-end c = search (plain-off sattr sattr-small, tries, exit c.from_residual.ensures.1)

pub slice_bounds-put_sattr3-count : goal.slice_bounds-put_sattr3-count
slice_bounds-put_sattr3-count c = search (rooms, rules, tries)

pub slice_bounds-put_sattr3-start : goal.slice_bounds-put_sattr3-start
slice_bounds-put_sattr3-start c = search (rooms, rules, tries)

pub returns : goal.returns
returns c = search (plain-on sattr sattr-small, sattr-good, tries)
