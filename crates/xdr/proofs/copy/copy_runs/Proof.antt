use borrow.Author.Rules.{rules}
use Rattle.xdr.specs.Laws.Copying.{back-runs}
use Rattle.xdr.proofs.copy.copy_runs.Statement.{statement}
use Rattle.xdr.proofs.copy.copy_runs.Tie as tie

pub copy_runs_spec : {M : Type 1} → statement M
copy_runs_spec =
    tie.close
    (tie.spec
    (search rules) (search rules) (search rules) (search rules) (search rules) (search rules) (search rules) (search rules)
    (search rules) (search rules) (search rules) (search rules) (λ c. search back-runs))
