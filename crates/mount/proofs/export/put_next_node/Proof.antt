use borrow.Author.Rules.{rules}
use Rattle.xdr.specs.Laws.Optional.{held-void, held-value}
use Rattle.mount.specs.Laws.Export.{next-node-optional}
use Rattle.mount.proofs.export.put_next_node.Statement.{statement}
use Rattle.mount.proofs.export.put_next_node.Tie as tie

pub put_next_node_spec : {M : Type 1} → statement M
put_next_node_spec =
    tie.close
    (tie.spec
    (search rules) (search rules) (search rules) (search rules) (search rules) (λ c. search (held-void next-node-optional)) (search rules)
    (λ c. search (held-value next-node-optional)))
