-- made by tools/generate from crates/nfsfile/rfc/setattr.x
use Rattle.xdr.specs.Laws.Plans.{asks}
use Rattle.xdr.specs.Laws.Records.{by-plan}
use Rattle.xdr.specs.Laws.Answers.{exits}
use Rattle.nfsfile.specs.Laws.Setattr.{sattrguard-plan}
use Rattle.nfsfile.specs.Meaning.Setattr.{sattrguard}
use Rattle.nfsfile.proofs.setattr.sattrguard3_at.Goals as goal

pub returns-in_err-follows : goal.returns-in_err-follows
unfolding sattrguard
returns-in_err-follows c = exits _ c.from_residual.ensures.1 (search (by-plan sattrguard-plan, asks, c.in_err-follows.ensures) depth 20)

pub returns-then-not-follows : goal.returns-then-not-follows
unfolding sattrguard
returns-then-not-follows c = search (by-plan sattrguard-plan, asks, c.in_ok-follows.ensures) depth 20

pub returns-in_err-v : goal.returns-in_err-v
unfolding sattrguard
returns-in_err-v c = exits _ c.from_residual-in_err-v.ensures.1 (search (by-plan sattrguard-plan, asks, c.in_ok-follows.ensures, c.in_err-v.ensures) depth 20)

pub returns : goal.returns
unfolding sattrguard
returns c = search (by-plan sattrguard-plan, asks, c.in_ok-follows.ensures, c.in_ok-v.ensures) depth 20
