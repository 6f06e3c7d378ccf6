use borrow.Author.Rules.{rules}
use Rattle.xdr.specs.Laws.Writers.{plain-on}
use Rattle.xdr.specs.Laws.Lays.{rooms}
use Rattle.xdr.specs.Laws.Answers.{tries, exit}
use Rattle.xdr.proofs.Refused.{plain-off}
use Rattle.nfs.proofs.Ranges.{set-mtime-good}
use Rattle.nfs.specs.Laws.Bytes.{set-mtime-small}
use Rattle.nfs.specs.Meaning.Set.{set-mtime}
use Rattle.nfs.proofs.write.write_set_mtime.Goals as goal

pub returns-in_err-end : goal.returns-in_err-end
returns-in_err-end c = search (plain-off set-mtime set-mtime-small, tries, exit c.from_residual.ensures.1)

pub slice_bounds-put_set_mtime-count : goal.slice_bounds-put_set_mtime-count
slice_bounds-put_set_mtime-count c = search (rooms, rules, tries)

pub slice_bounds-put_set_mtime-start : goal.slice_bounds-put_set_mtime-start
slice_bounds-put_set_mtime-start c = search (rooms, rules, tries)

pub returns : goal.returns
returns c = search (plain-on set-mtime set-mtime-small, set-mtime-good, tries)
