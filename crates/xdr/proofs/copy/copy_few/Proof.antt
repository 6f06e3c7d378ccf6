use borrow.Author.Rules.{rules}
use native.Mathlib.Omega.{arith}
use lib.ListN.{length-set}
use Rattle.xdr.specs.Laws.Copying.{none-copied, few-copied}
use Rattle.xdr.proofs.copy.copy_few.Statement.{statement}
use Rattle.xdr.proofs.copy.copy_few.Tie as tie

pub copy_few_spec : {M : Type 1} → statement M
copy_few_spec =
    tie.close
    (tie.spec
    (λ c. search none-copied) (search rules) (search rules) (search rules) (λ c. simp length-set (omega arith)) (search rules)
    (search rules) (search rules) (λ c. simp length-set (omega arith)) (λ c. simp length-set) (λ c. search few-copied))
