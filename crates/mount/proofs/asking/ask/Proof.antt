use borrow.Author.Rules.{rules}
use Rattle.mount.specs.Laws.Ask.{ask-refused, ask-replied, ask-silent, ask-handed}
use Rattle.mount.proofs.asking.ask.Statement.{statement}
use Rattle.mount.proofs.asking.ask.Tie as tie

pub ask_spec : {M : Type 1} → statement M
ask_spec =
    tie.close
    (tie.spec
    (search rules) (search rules) (search rules) (search rules) (search rules) (search rules) (search rules) (search rules) (λ c. search ask-refused) (search rules) (λ c. search ask-replied) (search rules) (λ c. search ask-silent) (search rules)
    (λ c. search ask-handed))
