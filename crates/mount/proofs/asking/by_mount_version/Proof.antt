use borrow.Author.Rules.{rules}
use Rattle.mount.specs.Laws.Ask.{accepted-sends, version-other, version-served}
use Rattle.mount.proofs.asking.by_mount_version.Statement.{statement}
use Rattle.mount.proofs.asking.by_mount_version.Tie as tie

pub by_mount_version_spec : {M : Type 1} → statement M
by_mount_version_spec =
    tie.close
    (tie.spec
    (search rules) (λ c κs. search accepted-sends) (search rules) (λ c. search version-other) (search rules) (search rules) (λ c. search version-served))
