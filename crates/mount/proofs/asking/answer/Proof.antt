use borrow.Author.Rules.{rules}
use Rattle.mount.specs.Laws.Ask.{to-mount, to-portmap, to-another}
use Rattle.mount.proofs.asking.answer.Statement.{statement}
use Rattle.mount.proofs.asking.answer.Tie as tie

pub answer_spec : {M : Type 1} → statement M
answer_spec =
    tie.close
    (tie.spec
    (search rules) (search rules) (search rules) (λ c. search to-mount) (search rules) (λ c. search to-portmap) (λ c. search to-another))
