use borrow.Author.Rules.{rules}
use native.Mathlib.Omega.{arith}
use lib.ListN.{length-take, length-drop}
use Rattle.rpc.specs.Laws.Sizes.{same_size}
use Rattle.rpc.specs.Laws.ReplySizes.{reject_size}
use Rattle.rpc.specs.Meaning.Current.{current}
use Rattle.rpc.specs.Laws.Current.{puts}
use Rattle.rpc.proofs.current.put.put_rejected_reply.Statement.{statement}
use Rattle.rpc.proofs.current.put.put_rejected_reply.Tie as tie

pub put_rejected_reply_spec : {M : Type 1} → statement M
put_rejected_reply_spec =
    tie.close
    (tie.spec
    (search rules) (search rules) (λ c. omega (arith, same_size (reject_size current))) (λ c. omega (arith, same_size (reject_size current))) (search rules)
    (λ c κs. simp (length-take, length-drop) (omega (arith, same_size (reject_size current)))) (search rules) (search rules) (search rules)
    (search rules) (λ c. search puts) (search rules) (λ c. search puts))
