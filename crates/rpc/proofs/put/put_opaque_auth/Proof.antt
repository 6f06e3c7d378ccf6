use borrow.Author.Rules.{rules}
use Rattle.rpc.specs.Laws.ReplyPuts.{puts}
use Rattle.rpc.proofs.put.put_opaque_auth.Statement.{statement}
use Rattle.rpc.proofs.put.put_opaque_auth.Tie as tie

pub put_opaque_auth_spec : {M : Type 1} → statement M
put_opaque_auth_spec =
    tie.close
    (tie.spec
    (search rules) (search rules) (search rules) (search rules) (search rules) (search rules) (search rules) (λ c. search puts))
