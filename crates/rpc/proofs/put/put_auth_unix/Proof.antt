use borrow.Author.Rules.{rules}
use Rattle.rpc.specs.Laws.Sources.{puts-from, readies-from}
use Rattle.rpc.proofs.put.put_auth_unix.Statement.{statement}
use Rattle.rpc.proofs.put.put_auth_unix.Tie as tie

pub put_auth_unix_spec : {M : Type 1} → statement M
put_auth_unix_spec = tie.close (tie.spec (λ c κs. search readies-from) (search rules) (λ c. search puts-from))
