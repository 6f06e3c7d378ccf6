use borrow.Author.Rules.{rules}
use native.Mathlib.Omega.{arith}
use lib.ListN.{length-take, length-drop}
use Rattle.rpc.specs.Laws.ReplyPuts.{puts, readies}
use Rattle.rpc.proofs.put.put_rpc_msg.Statement.{statement}
use Rattle.rpc.proofs.put.put_rpc_msg.Tie as tie

pub put_rpc_msg_spec : {M : Type 1} → statement M
put_rpc_msg_spec =
    tie.close
    (tie.spec
    (search rules) (search rules) (search rules) (search rules) (λ c κs. (search readies, simp (length-take, length-drop) (omega arith)))
    (search rules) (λ c. search puts))
