-- made by tools/generate from crates/nfsfile/rfc/lookup.x
use borrow.Author.Rules.{rules}
use Rattle.xdr.specs.Laws.Write.{of-long}
use Rattle.xdr.specs.Laws.Writers.{put-outside, put-short}
use Rattle.xdr.specs.Laws.Fields.{lays_all}
use Rattle.xdr.specs.Laws.Status.{ok-lays, failed-lays}
use Rattle.nfsfile.specs.Laws.Lookup.{lookup-res-writer, lookup-res-status}
use Rattle.nfsfile.proofs.lookup.put_lookup3res.Statement.{statement}
use Rattle.nfsfile.proofs.lookup.put_lookup3res.Tie as tie

pub put_lookup3res_spec : {M : Type 1} → statement M
put_lookup3res_spec = tie.close (tie.spec (λ c. search of-long) (search rules) (λ c. search (put-outside lookup-res-writer)) (search rules) (λ c. search (put-short lookup-res-writer)) (search rules) (search rules) (search rules) (search rules) (search rules) (λ c. search (lays_all lookup-res-writer, ok-lays lookup-res-status)) (search rules) (λ c. search (lays_all lookup-res-writer, failed-lays lookup-res-status)))
