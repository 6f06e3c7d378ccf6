use Rattle.xdr.specs.Laws.Records.{by-plan}
use Rattle.nfsattr.specs.Meaning.Attr.{fattr}
use Rattle.nfsattr.specs.Laws.Plans.{fattr-plan, attr-asks}
use Rattle.xdr.specs.Laws.Answers.{exits}
use Rattle.nfsattr.proofs.inner.attr.fattr3_whole.Goals as goal

pub returns-in_err-ids : goal.returns-in_err-ids
unfolding fattr
returns-in_err-ids c = exits _ c.from_residual.ensures.1 (search (by-plan fattr-plan, attr-asks, c.in_err-ids.ensures) depth 20)

pub returns-in_err-sizes : goal.returns-in_err-sizes
unfolding fattr
returns-in_err-sizes c = exits _ c.from_residual-in_err-sizes.ensures.1 (search (by-plan fattr-plan, attr-asks, c.in_ok-ids.ensures, c.in_err-sizes.ensures) depth 20)

pub returns-in_err-times : goal.returns-in_err-times
unfolding fattr
returns-in_err-times c = exits _ c.from_residual-in_err-times.ensures.1 (search (by-plan fattr-plan, attr-asks, c.in_ok-ids.ensures, c.in_ok-sizes.ensures, c.in_err-times.ensures) depth 20)

pub returns : goal.returns
unfolding fattr
returns c = search (by-plan fattr-plan, attr-asks, c.in_ok-ids.ensures, c.in_ok-sizes.ensures, c.in_ok-times.ensures) depth 20
