-- made by tools/generate from crates/nfs/rfc/dir.x
use Rattle.xdr.specs.Laws.Plans.{planned, asks}
use Rattle.xdr.specs.Laws.Answers.{exits}
use Rattle.nfs.specs.Laws.Dir.{post-op-fh-plan}
use Rattle.nfs.specs.Meaning.Dir.{post_op_fh}
use Rattle.nfs.proofs.dir.post_op_fh3_at.Goals as goal

pub returns-in_err-follows : goal.returns-in_err-follows
unfolding post_op_fh
returns-in_err-follows c = exits _ c.from_residual.ensures.1 (search (planned post-op-fh-plan, asks, c.in_err-follows.ensures) depth 20)

pub returns-then-not-follows : goal.returns-then-not-follows
unfolding post_op_fh
returns-then-not-follows c = search (planned post-op-fh-plan, asks, c.in_ok-follows.ensures) depth 20

pub returns-in_err-v : goal.returns-in_err-v
unfolding post_op_fh
returns-in_err-v c = exits _ c.from_residual-in_err-v.ensures.1 (search (planned post-op-fh-plan, asks, c.in_ok-follows.ensures, c.in_err-v.ensures) depth 20)

pub returns : goal.returns
unfolding post_op_fh
returns c = search (planned post-op-fh-plan, asks, c.in_ok-follows.ensures, c.in_ok-v.ensures) depth 20
