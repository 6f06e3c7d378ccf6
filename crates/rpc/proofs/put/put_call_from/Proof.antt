use borrow.Author.Rules.{rules}
use Rattle.rpc.specs.Laws.Sources.{puts-from}
use Rattle.rpc.proofs.put.put_call_from.Statement.{statement}
use Rattle.rpc.proofs.put.put_call_from.Tie as tie

pub put_call_from_spec : {M : Type 1} → statement M
put_call_from_spec =
    tie.close
    (tie.spec
    (search rules) (search rules) (search rules) (search rules) (λ c κs. search rules) (search rules) (λ c. search puts-from))
