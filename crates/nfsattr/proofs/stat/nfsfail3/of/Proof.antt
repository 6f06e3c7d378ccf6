use borrow.Author.Rules.{rules}
use Rattle.nfsattr.specs.Laws.Read.{fail-none, fail-is}
use Rattle.nfsattr.proofs.stat.nfsfail3.of.Statement.{statement}
use Rattle.nfsattr.proofs.stat.nfsfail3.of.Tie as tie

pub of_spec : {M : Type 1} → statement M
of_spec = tie.close (tie.spec (search rules) (search rules) (search rules) (λ c. search fail-none) (search rules) (search rules) (λ c. search fail-is) (λ c. search fail-is))
