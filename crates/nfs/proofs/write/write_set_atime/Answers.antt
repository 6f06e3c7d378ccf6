use borrow.Author.Rules.{rules}
use Rattle.xdr.specs.Laws.Writers.{plain-on}
use Rattle.xdr.specs.Laws.Lays.{rooms}
use Rattle.xdr.specs.Laws.Answers.{tries, exit}
use Rattle.xdr.proofs.Refused.{plain-off}
use Rattle.nfs.proofs.Ranges.{set-atime-good}
use Rattle.nfs.specs.Laws.Bytes.{set-atime-small}
use Rattle.nfs.specs.Meaning.Set.{set-atime}
use Rattle.nfs.proofs.write.write_set_atime.Goals as goal

pub returns-in_err-end : goal.returns-in_err-end
returns-in_err-end c = search (plain-off set-atime set-atime-small, tries, exit c.from_residual.ensures.1)

pub slice_bounds-put_set_atime-count : goal.slice_bounds-put_set_atime-count
slice_bounds-put_set_atime-count c = search (rooms, rules, tries)

pub slice_bounds-put_set_atime-start : goal.slice_bounds-put_set_atime-start
slice_bounds-put_set_atime-start c = search (rooms, rules, tries)

pub returns : goal.returns
returns c = search (plain-on set-atime set-atime-small, set-atime-good, tries)
