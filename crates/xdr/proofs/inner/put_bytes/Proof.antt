use borrow.Author.Rules.{rules}
use Rattle.xdr.specs.Laws.Write.{laid-short, copy-laid}
use Rattle.xdr.proofs.inner.put_bytes.Statement.{statement}
use Rattle.xdr.proofs.inner.put_bytes.Tie as tie

pub put_bytes_spec : {M : Type 1} → statement M
put_bytes_spec = tie.close (tie.spec (λ c. search laid-short) (search rules) (search rules) (λ c. search (rules, copy-laid)))
