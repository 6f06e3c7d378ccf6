use borrow.Author.Rules.{rules}
use Rattle.xdr.specs.Laws.Writers.{plain-on}
use Rattle.xdr.proofs.Refused.{plain-off}
use Rattle.xdr.specs.Laws.Lays.{rooms}
use Rattle.nfsattr.specs.Meaning.Attr.{fsinfo}
use Rattle.nfsattr.specs.Laws.Bytes.{fsinfo-small}
use Rattle.nfsattr.proofs.Ranges.{fsinfo-good}
use Rattle.xdr.specs.Laws.Answers.{tries, exit}
use Rattle.nfsattr.proofs.write.write_fsinfo3.Goals as goal

pub returns-in_err-end : goal.returns-in_err-end
returns-in_err-end c = search (plain-off fsinfo fsinfo-small, rooms, plain-on fsinfo fsinfo-small, fsinfo-good, rules, tries, exit c.from_residual.ensures.1)

pub slice_bounds-put_fsinfo3-count : goal.slice_bounds-put_fsinfo3-count
slice_bounds-put_fsinfo3-count c = search (plain-off fsinfo fsinfo-small, rooms, plain-on fsinfo fsinfo-small, fsinfo-good, rules, tries)

pub slice_bounds-put_fsinfo3-start : goal.slice_bounds-put_fsinfo3-start
slice_bounds-put_fsinfo3-start c = search (plain-off fsinfo fsinfo-small, rooms, plain-on fsinfo fsinfo-small, fsinfo-good, rules, tries)

pub returns : goal.returns
returns c = search (plain-off fsinfo fsinfo-small, rooms, plain-on fsinfo fsinfo-small, fsinfo-good, rules, tries)
