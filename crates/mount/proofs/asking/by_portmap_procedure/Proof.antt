use borrow.Author.Rules.{rules}
use Rattle.mount.specs.Laws.Ask.{accepted-sends, portmap-null, portmap-getport, portmap-other}
use Rattle.mount.proofs.asking.by_portmap_procedure.Statement.{statement}
use Rattle.mount.proofs.asking.by_portmap_procedure.Tie as tie

pub by_portmap_procedure_spec : {M : Type 1} → statement M
by_portmap_procedure_spec =
    tie.close
    (tie.spec
    (search rules) (λ c κs. search accepted-sends) (search rules) (search rules) (λ c κs. search accepted-sends) (search rules) (λ c. search portmap-null) (λ c. search portmap-getport) (search rules)
    (λ c. search portmap-other))
