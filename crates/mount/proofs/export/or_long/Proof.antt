use borrow.Author.Rules.{rules}
use Rattle.mount.specs.Laws.Export.{or_kept, or_short, or-over}
use Rattle.mount.proofs.export.or_long.Statement.{statement}
use Rattle.mount.proofs.export.or_long.Tie as tie

pub or_long_spec : {M : Type 1} → statement M
or_long_spec =
    tie.close
    (tie.spec
    (λ c. search (rules, or_short)) (search rules) (λ c. search (rules, or_kept)) (search rules) (search rules) (λ c. search (rules, or-over)))
