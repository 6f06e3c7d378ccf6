-- made by tools/generate from crates/nfsdata/rfc/write.x
use borrow.Author.Rules.{rules}
use Rattle.xdr.specs.Laws.Write.{of-long}
use Rattle.xdr.specs.Laws.Writers.{put-outside, put-short}
use Rattle.xdr.specs.Laws.Fields.{lays_all}
use Rattle.xdr.specs.Laws.Status.{ok-lays, failed-lays}
use Rattle.nfsdata.specs.Laws.Write.{write-res-writer, write-res-status}
use Rattle.nfsdata.proofs.write.put_write3res.Statement.{statement}
use Rattle.nfsdata.proofs.write.put_write3res.Tie as tie

pub put_write3res_spec : {M : Type 1} → statement M
put_write3res_spec = tie.close (tie.spec (λ c. search of-long) (search rules) (λ c. search (put-outside write-res-writer)) (search rules) (λ c. search (put-short write-res-writer)) (search rules) (search rules) (search rules) (search rules) (search rules) (λ c. search (lays_all write-res-writer, ok-lays write-res-status)) (search rules) (λ c. search (lays_all write-res-writer, failed-lays write-res-status)))
