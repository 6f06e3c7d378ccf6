-- made by tools/generate from crates/nfsdata/rfc/write.x
use borrow.Author.Rules.{rules}
use Rattle.xdr.specs.Laws.Status.{ok-inside, failed-inside}
use Rattle.nfsdata.specs.Laws.Write.{write-res-status}
use Rattle.nfsdata.proofs.write.write3res_inside.Statement.{statement}
use Rattle.nfsdata.proofs.write.write3res_inside.Tie as tie

pub write3res_inside_spec : {M : Type 1} → statement M
write3res_inside_spec = tie.close (tie.spec (search rules) (search rules) (λ c. search (ok-inside write-res-status)) (λ c. search (failed-inside write-res-status)))
