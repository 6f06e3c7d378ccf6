use borrow.Author.Rules.{rules}
use Rattle.mount.specs.Laws.Export.{node-lays}
use Rattle.mount.proofs.export.put_node.Statement.{statement}
use Rattle.mount.proofs.export.put_node.Tie as tie

pub put_node_spec : {M : Type 1} → statement M
put_node_spec = tie.close (tie.spec (search rules) (search rules) (λ c. search (rules, node-lays)))
