use Rattle.xdr.specs.Laws.Records.{by-plan}
use Rattle.nfsattr.specs.Laws.Groups.{sizes}
use Rattle.nfsattr.specs.Laws.Plans.{sizes-plan, attr-asks}
use Rattle.xdr.specs.Laws.Answers.{exits}
use Rattle.nfsattr.proofs.inner.attr.sizes_at.Goals as goal

pub returns-in_err-size_and_used : goal.returns-in_err-size_and_used
unfolding sizes
returns-in_err-size_and_used c = exits _ c.from_residual.ensures.1 (search (by-plan sizes-plan, attr-asks, c.in_err-size_and_used.ensures) depth 20)

pub returns-in_err-rdev : goal.returns-in_err-rdev
unfolding sizes
returns-in_err-rdev c = exits _ c.from_residual-in_err-rdev.ensures.1 (search (by-plan sizes-plan, attr-asks, c.in_ok-size_and_used.ensures, c.in_err-rdev.ensures) depth 20)

pub returns-in_err-fsid_and_fileid : goal.returns-in_err-fsid_and_fileid
unfolding sizes
returns-in_err-fsid_and_fileid c = exits _ c.from_residual-in_err-fsid_and_fileid.ensures.1 (search (by-plan sizes-plan, attr-asks, c.in_ok-size_and_used.ensures, c.in_ok-rdev.ensures, c.in_err-fsid_and_fileid.ensures) depth 20)

pub returns : goal.returns
unfolding sizes
returns c = search (by-plan sizes-plan, attr-asks, c.in_ok-size_and_used.ensures, c.in_ok-rdev.ensures, c.in_ok-fsid_and_fileid.ensures) depth 20
