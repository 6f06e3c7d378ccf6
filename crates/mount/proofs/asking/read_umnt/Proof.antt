use borrow.Author.Rules.{rules}
use Rattle.mount.specs.Laws.Ask.{path-lost, umnt-given}
use Rattle.mount.proofs.asking.read_umnt.Statement.{statement}
use Rattle.mount.proofs.asking.read_umnt.Tie as tie

pub read_umnt_spec : {M : Type 1} → statement M
read_umnt_spec =
    tie.close
    (tie.spec
    (search rules) (search rules) (search rules) (λ c. search path-lost) (λ c. search umnt-given))
