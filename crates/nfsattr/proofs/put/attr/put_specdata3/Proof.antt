use borrow.Author.Rules.{rules}
use Rattle.xdr.specs.Laws.Lays.{lays}
use Rattle.nfsattr.specs.Laws.Bytes.{specdata-bytes}
use Rattle.nfsattr.proofs.put.attr.put_specdata3.Statement.{statement}
use Rattle.nfsattr.proofs.put.attr.put_specdata3.Tie as tie

pub put_specdata3_spec : {M : Type 1} → statement M
put_specdata3_spec = tie.close (tie.spec (search rules) (search rules) (λ c. search (lays, specdata-bytes)))
