use borrow.Author.Rules.{rules}
use Rattle.xdr.specs.Laws.Lays.{lays}
use Rattle.nfsattr.specs.Laws.Bytes.{ftype-bytes}
use Rattle.nfsattr.proofs.put.attr.put_ftype3.Statement.{statement}
use Rattle.nfsattr.proofs.put.attr.put_ftype3.Tie as tie

pub put_ftype3_spec : {M : Type 1} → statement M
put_ftype3_spec = tie.close (tie.spec (search rules) (search rules) (search rules) (λ c. search (lays, ftype-bytes)))
