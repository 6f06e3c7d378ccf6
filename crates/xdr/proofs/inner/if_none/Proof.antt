use Rattle.xdr.specs.Laws.Padding.{if_none, if_some}
use Rattle.xdr.proofs.inner.if_none.Statement.{statement}
use Rattle.xdr.proofs.inner.if_none.Tie as tie

pub if_none_spec : {M : Type 1} → statement M
if_none_spec = tie.close (tie.spec (λ c. search if_none) (λ c. search if_some))
