use borrow.Author.Rules.{rules}
use Rattle.xdr.specs.Laws.Numbers.{found_at}
use Rattle.nfsattr.specs.Laws.Read.{stat-failed, stat-below, stat-between, stat-above}
use Rattle.nfsattr.proofs.stat.nfsstat3.of.Statement.{statement}
use Rattle.nfsattr.proofs.stat.nfsstat3.of.Tie as tie

ruleset told = (found_at, stat-failed, stat-below, stat-between, stat-above, rules)

pub of_spec : {M : Type 1} → statement M
of_spec =
    tie.close
    (tie.spec
    (λ c. search told) (λ c. search told) (λ c. search told) (λ c. search told) (λ c. search told) (λ c. search told) (λ c. search told) (λ c. search told)
    (λ c. search told) (λ c. search told) (λ c. search told) (λ c. search told) (λ c. search told) (λ c. search told) (λ c. search told) (λ c. search told)
    (λ c. search told) (λ c. search told) (λ c. search told) (λ c. search told) (λ c. search told) (λ c. search told))
