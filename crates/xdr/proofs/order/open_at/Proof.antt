use mathlib.Core.Path.{sym}
use Rattle.xdr.specs.Laws.Public.{opened-long, opened-past, opened_in}
use Rattle.xdr.proofs.order.open_at.Statement.{statement}
use Rattle.xdr.proofs.order.open_at.Tie as tie

pub open_at_spec : {M : Type 1} → statement M
open_at_spec = tie.close (tie.spec (λ c. sym (search opened-long)) (λ c. sym (search opened-past)) (λ c. sym (search opened_in)))
