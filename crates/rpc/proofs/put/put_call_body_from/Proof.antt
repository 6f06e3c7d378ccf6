use borrow.Author.Rules.{rules}
use native.Mathlib.Omega.{arith}
use lib.ListN.{length-take, length-drop}
use Rattle.rpc.specs.Laws.Sources.{puts-from}
use Rattle.rpc.proofs.put.put_call_body_from.Statement.{statement}
use Rattle.rpc.proofs.put.put_call_body_from.Tie as tie

pub put_call_body_from_spec : {M : Type 1} → statement M
put_call_body_from_spec =
    tie.close
    (tie.spec
    (search rules) (search rules) (search rules) (search rules) (search rules) (search rules) (search rules) (search rules)
    (λ c κs. (search rules, simp (length-take, length-drop) (omega arith))) (search rules) (search rules) (search rules) (search rules)
    (search rules) (λ c κs. (search rules, simp (length-take, length-drop) (omega arith))) (search rules) (λ c. search puts-from))
