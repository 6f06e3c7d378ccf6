use Rattle.xdr.specs.Laws.Plans.{planned, asks}
use Rattle.xdr.specs.Laws.Answers.{exits}
use Rattle.mount.specs.Meaning.Export.{node}
use Rattle.mount.specs.Laws.Export.{node-plan}
use Rattle.mount.proofs.export.exportnode_at.Goals as goal

pub returns-in_err-ex_dir : goal.returns-in_err-ex_dir
unfolding node
returns-in_err-ex_dir c = exits _ c.from_residual.ensures.1 (search (planned node-plan, asks, c.in_err-ex_dir.ensures) depth 20)

pub returns-in_err-ex_groups : goal.returns-in_err-ex_groups
unfolding node
returns-in_err-ex_groups c = exits _ c.from_residual-in_err-ex_groups.ensures.1 (search (planned node-plan, asks, c.in_ok-ex_dir.ensures, c.in_err-ex_groups.ensures) depth 20)

pub returns : goal.returns
unfolding node
returns c = search (planned node-plan, asks, c.in_ok-ex_dir.ensures, c.in_ok-ex_groups.ensures) depth 20
