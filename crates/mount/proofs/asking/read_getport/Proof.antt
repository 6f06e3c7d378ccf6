use borrow.Author.Rules.{rules}
use Rattle.mount.specs.Laws.Ask.{mapping-lost, getport-given}
use Rattle.mount.proofs.asking.read_getport.Statement.{statement}
use Rattle.mount.proofs.asking.read_getport.Tie as tie

pub read_getport_spec : {M : Type 1} → statement M
read_getport_spec =
    tie.close
    (tie.spec
    (search rules) (search rules) (search rules) (λ c. search mapping-lost) (λ c. search getport-given))
