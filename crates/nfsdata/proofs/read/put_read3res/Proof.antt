-- made by tools/generate from crates/nfsdata/rfc/read.x
use borrow.Author.Rules.{rules}
use Rattle.xdr.specs.Laws.Write.{of-long}
use Rattle.xdr.specs.Laws.Writers.{put-outside, put-short}
use Rattle.xdr.specs.Laws.Fields.{lays_all}
use Rattle.xdr.specs.Laws.Status.{ok-lays, failed-lays}
use Rattle.nfsdata.specs.Laws.Read.{read-res-writer, read-res-status}
use Rattle.nfsdata.proofs.read.put_read3res.Statement.{statement}
use Rattle.nfsdata.proofs.read.put_read3res.Tie as tie

pub put_read3res_spec : {M : Type 1} → statement M
put_read3res_spec = tie.close (tie.spec (λ c. search of-long) (search rules) (λ c. search (put-outside read-res-writer)) (search rules) (λ c. search (put-short read-res-writer)) (search rules) (search rules) (search rules) (search rules) (search rules) (λ c. search (lays_all read-res-writer, ok-lays read-res-status)) (search rules) (λ c. search (lays_all read-res-writer, failed-lays read-res-status)))
