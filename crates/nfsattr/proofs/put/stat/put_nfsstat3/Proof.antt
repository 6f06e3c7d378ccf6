use borrow.Author.Rules.{rules}
use Rattle.xdr.specs.Laws.Lays.{lays}
use Rattle.nfsattr.specs.Laws.Closed.{nfsstat-bytes}
use Rattle.nfsattr.proofs.put.stat.put_nfsstat3.Statement.{statement}
use Rattle.nfsattr.proofs.put.stat.put_nfsstat3.Tie as tie

pub put_nfsstat3_spec : {M : Type 1} → statement M
put_nfsstat3_spec = tie.close (tie.spec (search rules) (search rules) (search rules) (λ c. search (lays, nfsstat-bytes)))
