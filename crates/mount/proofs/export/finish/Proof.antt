use borrow.Author.Rules.{rules}
use Rattle.mount.specs.Laws.Export.{finished-within, finished-over}
use Rattle.mount.proofs.export.finish.Statement.{statement}
use Rattle.mount.proofs.export.finish.Tie as tie

pub finish_spec : {M : Type 1} → statement M
finish_spec = tie.close (tie.spec (search rules) (search rules) (λ c. search (rules, finished-within)) (λ c. search (rules, finished-over)))
