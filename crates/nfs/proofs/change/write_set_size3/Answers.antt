-- made by tools/generate from crates/nfs/rfc/change.x
use Rattle.xdr.specs.Laws.Writers.{plain-on}
use Rattle.xdr.specs.Laws.Lays.{rooms}
use Rattle.xdr.specs.Laws.Answers.{tries, exit}
use Rattle.xdr.proofs.Refused.{plain-off}
use Rattle.nfs.proofs.ChangeRanges.{set-size-good}
use Rattle.nfs.specs.Laws.Change.{set-size-small}
use Rattle.nfs.specs.Meaning.Change.{set_size}
use Rattle.nfs.proofs.change.write_set_size3.Goals as goal

pub returns-in_err-end : goal.returns-in_err-end
returns-in_err-end c = search (plain-off set_size set-size-small, tries, exit c.from_residual.ensures.1)

pub slice_bounds-put_set_size3-count : goal.slice_bounds-put_set_size3-count
slice_bounds-put_set_size3-count c = search (rooms, c.in_ok-end.was)

pub slice_bounds-put_set_size3-start : goal.slice_bounds-put_set_size3-start
slice_bounds-put_set_size3-start c = search (rooms, c.in_ok-end.was)

pub returns : goal.returns
returns c = search (plain-on set_size set-size-small, set-size-good, tries)
