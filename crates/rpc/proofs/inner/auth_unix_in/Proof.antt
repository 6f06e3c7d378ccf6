use borrow.Author.Rules.{rules}
use Rattle.rpc.specs.Laws.UnixIn.{unix-outside, end_fits, end-count, unix-inside}
use Rattle.rpc.proofs.inner.auth_unix_in.Statement.{statement}
use Rattle.rpc.proofs.inner.auth_unix_in.Tie as tie

pub auth_unix_in_spec : {M : Type 1} → statement M
auth_unix_in_spec =
    tie.close
    (tie.spec
    (search rules) (λ c. search unix-outside) (λ c. search end_fits) (λ c. search end-count) (search rules) (λ c. search unix-inside))
