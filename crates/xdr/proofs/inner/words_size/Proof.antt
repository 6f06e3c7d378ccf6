use borrow.Author.Rules.{rules}
use Rattle.xdr.specs.Laws.Padding.{words-over, words-within}
use Rattle.xdr.proofs.inner.words_size.Statement.{statement}
use Rattle.xdr.proofs.inner.words_size.Tie as tie

pub words_size_spec : {M : Type 1} → statement M
words_size_spec = tie.close (tie.spec (λ c. search words-over) (search rules) (search rules) (λ c. search words-within))
