-- made by tools/generate from crates/nfsfile/rfc/lookup.x
use borrow.Author.Rules.{rules}
use Rattle.xdr.specs.Laws.Status.{ok-inside, failed-inside}
use Rattle.nfsfile.specs.Laws.Lookup.{lookup-res-status}
use Rattle.nfsfile.proofs.lookup.lookup3res_inside.Statement.{statement}
use Rattle.nfsfile.proofs.lookup.lookup3res_inside.Tie as tie

pub lookup3res_inside_spec : {M : Type 1} → statement M
lookup3res_inside_spec = tie.close (tie.spec (search rules) (search rules) (search rules) (λ c. search (ok-inside lookup-res-status)) (λ c. search (failed-inside lookup-res-status)))
