use borrow.Author.Rules.{rules}
use Rattle.xdr.specs.Laws.Lay.{words-laid}
use Rattle.xdr.proofs.inner.lay_words.Statement.{statement}
use Rattle.xdr.proofs.inner.lay_words.Tie as tie

pub lay_words_spec : {M : Type 1} → statement M
lay_words_spec =
    tie.close
    (tie.spec
    (search rules) (search rules) (search rules) (search rules) (search rules) (search rules) (search rules) (search rules)
    (search rules) (search rules) (λ c. search words-laid))
