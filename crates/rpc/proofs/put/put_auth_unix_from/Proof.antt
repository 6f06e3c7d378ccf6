use borrow.Author.Rules.{rules}
use Rattle.rpc.specs.Laws.Sources.{puts-from}
use Rattle.rpc.proofs.put.put_auth_unix_from.Statement.{statement}
use Rattle.rpc.proofs.put.put_auth_unix_from.Tie as tie

pub put_auth_unix_from_spec : {M : Type 1} → statement M
put_auth_unix_from_spec =
    tie.close
    (tie.spec
    (search rules) (search rules) (search rules) (search rules) (search rules) (search rules) (search rules) (search rules) (search rules)
    (search rules) (search rules) (search rules) (search rules) (search rules) (search rules) (search rules) (search rules)
    (λ c. search puts-from))
