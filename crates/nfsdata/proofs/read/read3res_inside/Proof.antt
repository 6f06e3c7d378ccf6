-- made by tools/generate from crates/nfsdata/rfc/read.x
use borrow.Author.Rules.{rules}
use Rattle.xdr.specs.Laws.Status.{ok-inside, failed-inside}
use Rattle.nfsdata.specs.Laws.Read.{read-res-status}
use Rattle.nfsdata.proofs.read.read3res_inside.Statement.{statement}
use Rattle.nfsdata.proofs.read.read3res_inside.Tie as tie

pub read3res_inside_spec : {M : Type 1} → statement M
read3res_inside_spec = tie.close (tie.spec (search rules) (search rules) (search rules) (λ c. search (ok-inside read-res-status)) (λ c. search (failed-inside read-res-status)))
