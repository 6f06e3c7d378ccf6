use Rattle.xdr.specs.Laws.Records.{by-plan}
use Rattle.nfsattr.specs.Laws.Groups.{ids}
use Rattle.nfsattr.specs.Laws.Plans.{ids-plan, attr-asks}
use Rattle.xdr.specs.Laws.Answers.{exits}
use Rattle.nfsattr.proofs.inner.attr.ids_at.Goals as goal

pub returns-in_err-ftype : goal.returns-in_err-ftype
unfolding ids
returns-in_err-ftype c = exits _ c.from_residual.ensures.1 (search (by-plan ids-plan, attr-asks, c.in_err-ftype.ensures) depth 20)

pub returns-in_err-mode_and_nlink : goal.returns-in_err-mode_and_nlink
unfolding ids
returns-in_err-mode_and_nlink c = exits _ c.from_residual-in_err-mode_and_nlink.ensures.1 (search (by-plan ids-plan, attr-asks, c.in_ok-ftype.ensures, c.in_err-mode_and_nlink.ensures) depth 20)

pub returns-in_err-uid_and_gid : goal.returns-in_err-uid_and_gid
unfolding ids
returns-in_err-uid_and_gid c = exits _ c.from_residual-in_err-uid_and_gid.ensures.1 (search (by-plan ids-plan, attr-asks, c.in_ok-ftype.ensures, c.in_ok-mode_and_nlink.ensures, c.in_err-uid_and_gid.ensures) depth 20)

pub returns : goal.returns
unfolding ids
returns c = search (by-plan ids-plan, attr-asks, c.in_ok-ftype.ensures, c.in_ok-mode_and_nlink.ensures, c.in_ok-uid_and_gid.ensures) depth 20
