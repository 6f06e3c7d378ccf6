-- made by tools/generate from crates/nfsfile/rfc/getattr.x
use borrow.Author.Rules.{rules}
use Rattle.xdr.specs.Laws.Status.{ok-inside, alone-inside}
use Rattle.nfsfile.specs.Laws.Getattr.{getattr-res-status}
use Rattle.nfsfile.proofs.getattr.getattr3res_inside.Statement.{statement}
use Rattle.nfsfile.proofs.getattr.getattr3res_inside.Tie as tie

pub getattr3res_inside_spec : {M : Type 1} → statement M
getattr3res_inside_spec = tie.close (tie.spec (search rules) (search rules) (λ c. search (ok-inside getattr-res-status)) (λ c. search (alone-inside getattr-res-status)))
