use borrow.Author.Rules.{rules}
use native.Mathlib.Omega.{arith}
use mathlib.Core.Path.{refl}
use Rattle.xdr.specs.Laws.LayPieces.{bytes-tested, piece-told, lies-long, lies-outside, lies-short, bytes_fit, bytes-lie}
use Rattle.xdr.proofs.inner.put_opaque.Statement.{statement}
use Rattle.xdr.proofs.inner.put_opaque.Tie as tie

pub put_opaque_spec : {M : Type 1} → statement M
put_opaque_spec =
    tie.close
    (tie.spec
    (λ c. search (lies-long bytes-tested)) (search rules) (λ c. search (lies-outside bytes-tested))
    (λ c. omega (arith, piece-told _ _ c.before.inside.ensures c.if-not-inside.false))
    (λ c. omega (arith, piece-told _ _ c.before.inside.ensures c.if-not-inside.false))
    (λ c. omega (arith, piece-told _ _ c.before.inside.ensures c.if-not-inside.false)) (λ c. search (lies-short bytes-tested))
    (λ c. omega (arith, piece-told _ _ c.before.before.inside.ensures c.before.if-not-inside.false)) (search rules) (search rules)
    (λ c. omega (arith, piece-told _ _ c.before.before.inside.ensures c.before.if-not-inside.false))
    (λ c κs. let d = c.before.before in bytes_fit _ _ _ _ _ d.before.before.inside.ensures (search) (search) (search) refl)
    (search rules) (λ c. search bytes-lie))
