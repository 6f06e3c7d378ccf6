use borrow.Author.Rules.{rules}
use native.Mathlib.Omega.{arith}
use lib.ListN.{length-take, length-drop}
use Rattle.rpc.specs.Laws.ReplyPuts.{readies}
use Rattle.rpc.specs.Laws.Current.{puts}
use Rattle.rpc.proofs.current.put.put_accepted_reply.Statement.{statement}
use Rattle.rpc.proofs.current.put.put_accepted_reply.Tie as tie

pub put_accepted_reply_spec : {M : Type 1} → statement M
put_accepted_reply_spec =
    tie.close
    (tie.spec
    (λ c κs. (search readies, omega arith)) (search rules) (search rules) (search rules) (search rules)
    (λ c κs. simp (length-take, length-drop) (omega arith)) (search rules) (λ c. search puts))
