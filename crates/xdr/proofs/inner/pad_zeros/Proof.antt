use borrow.Author.Rules.{rules}
use Rattle.xdr.specs.Laws.Padding.{other-in, zeros-told}
use Rattle.xdr.proofs.inner.pad_zeros.Statement.{statement}
use Rattle.xdr.proofs.inner.pad_zeros.Tie as tie

pub pad_zeros_spec : {M : Type 1} → statement M
pad_zeros_spec = tie.close (tie.spec (search rules) (λ c κs. search other-in) (search rules) (search rules) (λ c. search zeros-told))
