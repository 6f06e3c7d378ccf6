use borrow.Author.Rules.{rules}
use native.Mathlib.Omega.{arith}
use mathlib.Core.Path.{◌∙◌, sym}
use Rattle.xdr.specs.Laws.Padding.{size-within, size-over}
use Rattle.xdr.proofs.inner.opaque_size.Statement.{statement}
use Rattle.xdr.proofs.inner.opaque_size.Tie as tie

pub opaque_size_spec : {M : Type 1} → statement M
opaque_size_spec =
    tie.close
    (tie.spec
    (λ c. search size-over) (search rules) (search rules) (search rules) (λ c. omega arith ∙ sym (size-within _ (search))))
