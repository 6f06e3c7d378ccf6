use borrow.Author.Rules.{rules}
use borrow.Author.Tests.{not-true, not-false}
use Rattle.xdr.specs.Laws.Placing.{placing-past, placing-long, placing-outside, placing-large, placing-short, placing-done}
use Rattle.xdr.proofs.order.place.Statement.{statement}
use Rattle.xdr.proofs.order.place.Tie as tie

ruleset placed = (rules, not-true, not-false, placing-past, placing-long, placing-outside, placing-large, placing-short, placing-done)

pub place_spec : {M : Type 1} → statement M
place_spec =
    tie.close
    (tie.spec
    (λ c. search placed) (λ c. search placed) (λ c. search placed) (λ c. search placed) (λ c. search placed) (search rules) (λ c. search placed))
