use borrow.Author.Rules.{rules}
use Rattle.mount.specs.Laws.Ask.{accepted-sends, mount-null, mount-mnt, mount-umnt, mount-export, mount-other}
use Rattle.mount.proofs.asking.by_mount_procedure.Statement.{statement}
use Rattle.mount.proofs.asking.by_mount_procedure.Tie as tie

pub by_mount_procedure_spec : {M : Type 1} → statement M
by_mount_procedure_spec =
    tie.close
    (tie.spec
    (search rules) (λ c κs. search accepted-sends) (search rules) (search rules) (search rules) (λ c κs. search accepted-sends) (search rules) (λ c. search mount-null) (λ c. search mount-mnt) (λ c. search mount-umnt)
    (λ c. search mount-export) (search rules) (λ c. search mount-other))
