use borrow.Author.Rules.{rules}
use Rattle.door.specs.Laws.Values.{call-made}
use Rattle.door.proofs.values_read.put_call.Statement.{statement}
use Rattle.door.proofs.values_read.put_call.Tie as tie

pub put_call_spec : {M : Type 1} → statement M
put_call_spec = tie.close (tie.spec (search rules) (search rules) (search rules) (search rules) (search rules) (search rules) (search rules) (λ c. search call-made))
