use borrow.Author.Rules.{rules}
use Rattle.xdr.specs.Laws.Optional.{held-void, held-value}
use Rattle.mount.specs.Laws.Group.{next-group-optional}
use Rattle.mount.proofs.group.put_next_group.Statement.{statement}
use Rattle.mount.proofs.group.put_next_group.Tie as tie

pub put_next_group_spec : {M : Type 1} → statement M
put_next_group_spec =
    tie.close
    (tie.spec
    (search rules) (search rules) (search rules) (search rules) (search rules) (λ c. search (held-void next-group-optional)) (search rules)
    (λ c. search (held-value next-group-optional)))
