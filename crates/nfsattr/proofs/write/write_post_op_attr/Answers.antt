use borrow.Author.Rules.{rules}
use Rattle.xdr.specs.Laws.Writers.{plain-on}
use Rattle.xdr.proofs.Refused.{plain-off}
use Rattle.xdr.specs.Laws.Lays.{rooms}
use Rattle.nfsattr.specs.Meaning.Attr.{post-op-attr}
use Rattle.nfsattr.specs.Laws.Bytes.{post-op-attr-small}
use Rattle.nfsattr.proofs.Ranges.{post-op-attr-good}
use Rattle.xdr.specs.Laws.Answers.{tries, exit}
use Rattle.nfsattr.proofs.write.write_post_op_attr.Goals as goal

pub returns-in_err-end : goal.returns-in_err-end
returns-in_err-end c = search (plain-off post-op-attr post-op-attr-small, rooms, plain-on post-op-attr post-op-attr-small, post-op-attr-good, rules, tries, exit c.from_residual.ensures.1)

pub slice_bounds-put_post_op_attr-count : goal.slice_bounds-put_post_op_attr-count
slice_bounds-put_post_op_attr-count c = search (plain-off post-op-attr post-op-attr-small, rooms, plain-on post-op-attr post-op-attr-small, post-op-attr-good, rules, tries)

pub slice_bounds-put_post_op_attr-start : goal.slice_bounds-put_post_op_attr-start
slice_bounds-put_post_op_attr-start c = search (plain-off post-op-attr post-op-attr-small, rooms, plain-on post-op-attr post-op-attr-small, post-op-attr-good, rules, tries)

pub returns : goal.returns
returns c = search (plain-off post-op-attr post-op-attr-small, rooms, plain-on post-op-attr post-op-attr-small, post-op-attr-good, rules, tries)
