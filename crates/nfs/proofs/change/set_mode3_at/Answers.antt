-- made by tools/generate from crates/nfs/rfc/change.x
use Rattle.xdr.specs.Laws.Plans.{asks}
use Rattle.xdr.specs.Laws.Records.{by-plan}
use Rattle.xdr.specs.Laws.Answers.{exits}
use Rattle.nfs.specs.Laws.Change.{set-mode-plan}
use Rattle.nfs.specs.Meaning.Change.{set_mode}
use Rattle.nfs.proofs.change.set_mode3_at.Goals as goal

pub returns-in_err-follows : goal.returns-in_err-follows
unfolding set_mode
returns-in_err-follows c = exits _ c.from_residual.ensures.1 (search (by-plan set-mode-plan, asks, c.in_err-follows.ensures) depth 20)

pub returns-then-not-follows : goal.returns-then-not-follows
unfolding set_mode
returns-then-not-follows c = search (by-plan set-mode-plan, asks, c.in_ok-follows.ensures) depth 20

pub returns-in_err-v : goal.returns-in_err-v
unfolding set_mode
returns-in_err-v c = exits _ c.from_residual-in_err-v.ensures.1 (search (by-plan set-mode-plan, asks, c.in_ok-follows.ensures, c.in_err-v.ensures) depth 20)

pub returns : goal.returns
unfolding set_mode
returns c = search (by-plan set-mode-plan, asks, c.in_ok-follows.ensures, c.in_ok-v.ensures) depth 20
