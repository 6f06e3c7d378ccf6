-- made by tools/generate from crates/nfsfile/rfc/setattr.x
use borrow.Author.Rules.{rules}
use Rattle.xdr.specs.Laws.Status.{ok-inside, failed-inside}
use Rattle.nfsfile.specs.Laws.Setattr.{setattr-res-status}
use Rattle.nfsfile.proofs.setattr.setattr3res_inside.Statement.{statement}
use Rattle.nfsfile.proofs.setattr.setattr3res_inside.Tie as tie

pub setattr3res_inside_spec : {M : Type 1} → statement M
setattr3res_inside_spec = tie.close (tie.spec (search rules) (search rules) (λ c. search (ok-inside setattr-res-status)) (λ c. search (failed-inside setattr-res-status)))
