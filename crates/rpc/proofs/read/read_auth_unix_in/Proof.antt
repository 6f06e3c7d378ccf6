use borrow.Author.Rules.{rules}
use Rattle.rpc.specs.Laws.UnixIn.{in-long, in-short}
use Rattle.rpc.proofs.read.read_auth_unix_in.Statement.{statement}
use Rattle.rpc.proofs.read.read_auth_unix_in.Tie as tie

pub read_auth_unix_in_spec : {M : Type 1} → statement M
read_auth_unix_in_spec = tie.close (tie.spec (λ c. search in-long) (search rules) (λ c. search in-short))
