use borrow.Author.Rules.{rules}
use mathlib.Core.Path.{◌∙◌}
use Rattle.xdr.proofs.number.word_here.Statement.{statement}
use Rattle.xdr.proofs.number.word_here.Tie as tie

pub word_here_spec : {M : Type 1} → statement M
word_here_spec = tie.close (tie.spec (search rules) (search rules) (λ c. c.swap.ensures ∙ c.before.raw_here.ensures))
