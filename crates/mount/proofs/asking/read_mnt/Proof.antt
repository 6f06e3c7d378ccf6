use borrow.Author.Rules.{rules}
use Rattle.mount.specs.Laws.Ask.{path-lost, mnt-given}
use Rattle.mount.proofs.asking.read_mnt.Statement.{statement}
use Rattle.mount.proofs.asking.read_mnt.Tie as tie

pub read_mnt_spec : {M : Type 1} → statement M
read_mnt_spec =
    tie.close
    (tie.spec
    (search rules) (search rules) (search rules) (λ c. search path-lost) (λ c. search mnt-given))
