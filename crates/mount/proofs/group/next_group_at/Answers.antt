use Rattle.xdr.specs.Laws.Plans.{planned, asks}
use Rattle.xdr.specs.Laws.Answers.{exits}
use Rattle.mount.specs.Meaning.Group.{next-group}
use Rattle.mount.specs.Laws.Group.{next-group-plan}
use Rattle.mount.proofs.group.next_group_at.Goals as goal

pub returns-in_err-more : goal.returns-in_err-more
unfolding next-group
returns-in_err-more c = exits _ c.from_residual.ensures.1 (search (planned next-group-plan, asks, c.in_err-more.ensures) depth 20)

pub returns-then-not-more : goal.returns-then-not-more
unfolding next-group
returns-then-not-more c = search (planned next-group-plan, asks, c.in_ok-more.ensures) depth 20

pub returns-in_err-name : goal.returns-in_err-name
unfolding next-group
returns-in_err-name c = exits _ c.from_residual-in_err-name.ensures.1 (search (planned next-group-plan, asks, c.in_ok-more.ensures, c.in_err-name.ensures) depth 20)

pub returns : goal.returns
unfolding next-group
returns c = search (planned next-group-plan, asks, c.in_ok-more.ensures, c.in_ok-name.ensures) depth 20
