-- made by tools/generate from crates/nfsfile/rfc/setattr.x
use borrow.Author.Rules.{rules}
use Rattle.xdr.specs.Laws.Write.{of-long}
use Rattle.xdr.specs.Laws.Writers.{put-outside, put-short}
use Rattle.xdr.specs.Laws.Fields.{lays_all}
use Rattle.xdr.specs.Laws.Status.{ok-lays, failed-lays}
use Rattle.nfsfile.specs.Laws.Setattr.{setattr-res-writer, setattr-res-status}
use Rattle.nfsfile.proofs.setattr.put_setattr3res.Statement.{statement}
use Rattle.nfsfile.proofs.setattr.put_setattr3res.Tie as tie

pub put_setattr3res_spec : {M : Type 1} → statement M
put_setattr3res_spec = tie.close (tie.spec (λ c. search of-long) (search rules) (λ c. search (put-outside setattr-res-writer)) (search rules) (λ c. search (put-short setattr-res-writer)) (search rules) (search rules) (search rules) (search rules) (search rules) (λ c. search (lays_all setattr-res-writer, ok-lays setattr-res-status)) (search rules) (λ c. search (lays_all setattr-res-writer, failed-lays setattr-res-status)))
