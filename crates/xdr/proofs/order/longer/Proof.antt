use borrow.Author.Rules.{rules}
use Rattle.xdr.specs.Laws.Sources.{longer-first, longer-second}
use Rattle.xdr.proofs.order.longer.Statement.{statement}
use Rattle.xdr.proofs.order.longer.Tie as tie

pub longer_spec : {M : Type 1} → statement M
longer_spec = tie.close (tie.spec (λ c. search (rules, longer-second)) (λ c. search (rules, longer-first)))
