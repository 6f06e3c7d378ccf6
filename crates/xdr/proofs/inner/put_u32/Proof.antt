use borrow.Author.Rules.{rules}
use native.Mathlib.Omega.{arith}
use lib.ListN.{length-set}
use Rattle.xdr.specs.Laws.Fixed.{word-fixed}
use Rattle.xdr.specs.Laws.Lay.{word-laid}
use Rattle.xdr.specs.Laws.Lays.{lay-short, size_is}
use Rattle.xdr.proofs.inner.put_u32.Statement.{statement}
use Rattle.xdr.proofs.inner.put_u32.Tie as tie

pub put_u32_spec : {M : Type 1} → statement M
put_u32_spec =
    tie.close
    (tie.spec
    (λ c. search (lay-short, size_is word-fixed)) (search rules) (search rules) (search rules) (search rules)
    (λ c. simp length-set (omega arith)) (search rules) (λ c. simp length-set (omega arith)) (search rules)
    (λ c. simp length-set (omega arith)) (search rules) (λ c. search (rules, word-laid)))
