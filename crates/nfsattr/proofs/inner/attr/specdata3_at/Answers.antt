use Rattle.xdr.specs.Laws.Records.{by-plan}
use Rattle.nfsattr.specs.Meaning.Attr.{specdata}
use Rattle.nfsattr.specs.Laws.Plans.{specdata-plan, attr-asks}
use Rattle.xdr.specs.Laws.Answers.{exits}
use Rattle.nfsattr.proofs.inner.attr.specdata3_at.Goals as goal

pub returns-in_err-specdata1_and_specdata2 : goal.returns-in_err-specdata1_and_specdata2
unfolding specdata
returns-in_err-specdata1_and_specdata2 c = exits _ c.from_residual.ensures.1 (search (by-plan specdata-plan, attr-asks, c.in_err-specdata1_and_specdata2.ensures) depth 20)

pub returns : goal.returns
unfolding specdata
returns c = search (by-plan specdata-plan, attr-asks, c.in_ok-specdata1_and_specdata2.ensures) depth 20
