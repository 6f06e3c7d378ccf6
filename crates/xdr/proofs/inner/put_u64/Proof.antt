use borrow.Author.Rules.{rules}
use native.Mathlib.Omega.{arith}
use lib.ListN.{length-set}
use Rattle.xdr.specs.Laws.Fixed.{hyper-fixed}
use Rattle.xdr.specs.Laws.Lay.{hyper-laid}
use Rattle.xdr.specs.Laws.Lays.{lay-short, size_is}
use Rattle.xdr.proofs.inner.put_u64.Statement.{statement}
use Rattle.xdr.proofs.inner.put_u64.Tie as tie

pub put_u64_spec : {M : Type 1} → statement M
put_u64_spec =
    tie.close
    (tie.spec
    (λ c. search (lay-short, size_is hyper-fixed)) (search rules) (search rules) (search rules) (search rules)
    (λ c. simp length-set (omega arith)) (search rules) (λ c. simp length-set (omega arith)) (search rules)
    (λ c. simp length-set (omega arith)) (search rules) (λ c. simp length-set (omega arith)) (search rules)
    (λ c. simp length-set (omega arith)) (search rules) (λ c. simp length-set (omega arith)) (search rules)
    (λ c. simp length-set (omega arith)) (λ c. simp length-set) (λ c. search (rules, hyper-laid)))
