-- made by tools/generate from crates/nfsfile/rfc/setattr.x
use Rattle.xdr.specs.Laws.Writers.{plain-on}
use Rattle.xdr.specs.Laws.Lays.{rooms}
use Rattle.xdr.specs.Laws.Answers.{tries, exit}
use Rattle.xdr.proofs.Refused.{plain-off}
use Rattle.nfsfile.proofs.SetattrRanges.{sattrguard-good}
use Rattle.nfsfile.specs.Laws.Setattr.{sattrguard-small}
use Rattle.nfsfile.specs.Meaning.Setattr.{sattrguard}
use Rattle.nfsfile.proofs.setattr.write_sattrguard3.Goals as goal

pub returns-in_err-end : goal.returns-in_err-end
returns-in_err-end c = search (plain-off sattrguard sattrguard-small, tries, exit c.from_residual.ensures.1)

pub slice_bounds-put_sattrguard3-count : goal.slice_bounds-put_sattrguard3-count
slice_bounds-put_sattrguard3-count c = search (rooms, c.in_ok-end.was)

pub slice_bounds-put_sattrguard3-start : goal.slice_bounds-put_sattrguard3-start
slice_bounds-put_sattrguard3-start c = search (rooms, c.in_ok-end.was)

pub returns : goal.returns
returns c = search (plain-on sattrguard sattrguard-small, sattrguard-good, tries)
