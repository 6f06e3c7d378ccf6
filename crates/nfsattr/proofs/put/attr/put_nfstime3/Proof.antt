use borrow.Author.Rules.{rules}
use Rattle.xdr.specs.Laws.Lays.{lays}
use Rattle.nfsattr.specs.Laws.Bytes.{nfstime-bytes}
use Rattle.nfsattr.proofs.put.attr.put_nfstime3.Statement.{statement}
use Rattle.nfsattr.proofs.put.attr.put_nfstime3.Tie as tie

pub put_nfstime3_spec : {M : Type 1} → statement M
put_nfstime3_spec = tie.close (tie.spec (search rules) (search rules) (λ c. search (lays, nfstime-bytes)))
