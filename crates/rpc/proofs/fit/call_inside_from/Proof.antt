use borrow.Author.Rules.{rules}
use Rattle.rpc.specs.Laws.Sources.{call-found-from}
use Rattle.rpc.proofs.fit.call_inside_from.Statement.{statement}
use Rattle.rpc.proofs.fit.call_inside_from.Tie as tie

pub call_inside_from_spec : {M : Type 1} → statement M
call_inside_from_spec = tie.close (tie.spec (search rules) (search rules) (λ c. search call-found-from))
