use Rattle.xdr.specs.Laws.Records.{by-plan}
use Rattle.xdr.specs.Laws.Answers.{exits}
use Rattle.nfs.specs.Laws.Plans.{file-asks, sattr-plan}
use Rattle.nfs.specs.Meaning.Set.{sattr}
use Rattle.nfs.proofs.inner.set.sattr3_at.Goals as goal

pub returns-in_err-mode : goal.returns-in_err-mode
unfolding sattr
returns-in_err-mode c = exits _ c.from_residual.ensures.1 (search (by-plan sattr-plan, file-asks, c.in_err-mode.ensures) depth 20)

pub returns-in_err-uid : goal.returns-in_err-uid
unfolding sattr
returns-in_err-uid c = exits _ c.from_residual-in_err-uid.ensures.1 (search (by-plan sattr-plan, file-asks, c.in_ok-mode.ensures, c.in_err-uid.ensures) depth 20)

pub returns-in_err-gid : goal.returns-in_err-gid
unfolding sattr
returns-in_err-gid c = exits _ c.from_residual-in_err-gid.ensures.1 (search (by-plan sattr-plan, file-asks, c.in_ok-mode.ensures, c.in_ok-uid.ensures, c.in_err-gid.ensures) depth 20)

pub returns-in_err-size : goal.returns-in_err-size
unfolding sattr
returns-in_err-size c = exits _ c.from_residual-in_err-size.ensures.1 (search (by-plan sattr-plan, file-asks, c.in_ok-mode.ensures, c.in_ok-uid.ensures, c.in_ok-gid.ensures, c.in_err-size.ensures) depth 20)

pub returns-in_err-atime : goal.returns-in_err-atime
unfolding sattr
returns-in_err-atime c = exits _ c.from_residual-in_err-atime.ensures.1 (search (by-plan sattr-plan, file-asks, c.in_ok-mode.ensures, c.in_ok-uid.ensures, c.in_ok-gid.ensures, c.in_ok-size.ensures, c.in_err-atime.ensures) depth 20)

pub returns-in_err-mtime : goal.returns-in_err-mtime
unfolding sattr
returns-in_err-mtime c = exits _ c.from_residual-in_err-mtime.ensures.1 (search (by-plan sattr-plan, file-asks, c.in_ok-mode.ensures, c.in_ok-uid.ensures, c.in_ok-gid.ensures, c.in_ok-size.ensures, c.in_ok-atime.ensures, c.in_err-mtime.ensures) depth 20)

pub returns : goal.returns
unfolding sattr
returns c = search (by-plan sattr-plan, file-asks, c.in_ok-mode.ensures, c.in_ok-uid.ensures, c.in_ok-gid.ensures, c.in_ok-size.ensures, c.in_ok-atime.ensures, c.in_ok-mtime.ensures) depth 20
