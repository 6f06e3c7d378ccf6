use Rattle.xdr.specs.Laws.Records.{by-plan}
use Rattle.nfsattr.specs.Meaning.Attr.{post-op-attr}
use Rattle.nfsattr.specs.Laws.Plans.{post-op-attr-plan, attr-asks}
use Rattle.xdr.specs.Laws.Answers.{exits}
use Rattle.nfsattr.proofs.inner.attr.post_op_attr_at.Goals as goal

pub returns-in_err-follows : goal.returns-in_err-follows
unfolding post-op-attr
returns-in_err-follows c = exits _ c.from_residual.ensures.1 (search (by-plan post-op-attr-plan, attr-asks, c.in_err-follows.ensures) depth 20)

pub returns-then-not-follows : goal.returns-then-not-follows
unfolding post-op-attr
returns-then-not-follows c = search (by-plan post-op-attr-plan, attr-asks, c.in_ok-follows.ensures) depth 20

pub returns-in_err-v : goal.returns-in_err-v
unfolding post-op-attr
returns-in_err-v c = exits _ c.from_residual-in_err-v.ensures.1 (search (by-plan post-op-attr-plan, attr-asks, c.in_ok-follows.ensures, c.in_err-v.ensures) depth 20)

pub returns : goal.returns
unfolding post-op-attr
returns c = search (by-plan post-op-attr-plan, attr-asks, c.in_ok-follows.ensures, c.in_ok-v.ensures) depth 20
