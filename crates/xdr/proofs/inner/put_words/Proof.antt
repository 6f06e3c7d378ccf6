use borrow.Author.Rules.{rules}
use native.Mathlib.Omega.{arith}
use mathlib.Core.Path.{refl}
use Rattle.xdr.specs.Laws.LayPieces.{words-tested, words-told, lies-long, lies-outside, lies-short, words-fit, words-lie}
use Rattle.xdr.proofs.inner.put_words.Statement.{statement}
use Rattle.xdr.proofs.inner.put_words.Tie as tie

pub put_words_spec : {M : Type 1} → statement M
put_words_spec =
    tie.close
    (tie.spec
    (λ c. search (lies-long words-tested)) (search rules) (λ c. search (lies-outside words-tested))
    (λ c. omega (arith, words-told _ _ c.before.words_inside.ensures c.if-not-words_inside.false))
    (λ c. omega (arith, words-told _ _ c.before.words_inside.ensures c.if-not-words_inside.false)) (λ c. search (lies-short words-tested))
    (search rules) (λ c. omega (arith, words-told _ _ c.before.before.words_inside.ensures c.before.if-not-words_inside.false))
    (search rules) (search rules)
    (λ c. omega (arith, words-told _ _ c.before.before.words_inside.ensures c.before.if-not-words_inside.false))
    (λ c κs. let d = c.before.before in words-fit _ _ _ _ _ d.before.before.words_inside.ensures (search) (search) (search) refl)
    (search rules) (λ c. search words-lie))
