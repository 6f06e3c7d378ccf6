use borrow.Author.Rules.{rules}
use Rattle.xdr.specs.Laws.Fields.{front-none, front-both, lays-of}
use Rattle.xdr.specs.Laws.Writers.{bytes-writer}
use Rattle.mount.specs.Laws.Export.{groups-lays}
use Rattle.mount.specs.Meaning.Group.{groups}
use Rattle.mount.proofs.export.put_node_1.Statement.{statement}
use Rattle.mount.proofs.export.put_node_1.Tie as tie

pub put_node_1_spec : {M : Type 1} → statement M
put_node_1_spec =
    tie.close
    (tie.spec
    (search rules) (λ c. search (front-none bytes-writer groups)) (search rules) (search rules) (search rules) (search rules) (search rules)
    (search rules) (search rules) (search rules) (search rules) (λ c. search (front-both bytes-writer groups, lays-of, groups-lays)))
