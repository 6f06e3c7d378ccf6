-- made by tools/generate from crates/nfsfile/rfc/getattr.x
use borrow.Author.Rules.{rules}
use Rattle.xdr.specs.Laws.Write.{of-long}
use Rattle.xdr.specs.Laws.Writers.{put-outside, put-short}
use Rattle.xdr.specs.Laws.Fields.{lays_all}
use Rattle.xdr.specs.Laws.Status.{ok-lays, alone-lays}
use Rattle.nfsfile.specs.Laws.Getattr.{getattr-res-writer, getattr-res-status}
use Rattle.nfsfile.proofs.getattr.put_getattr3res.Statement.{statement}
use Rattle.nfsfile.proofs.getattr.put_getattr3res.Tie as tie

pub put_getattr3res_spec : {M : Type 1} → statement M
put_getattr3res_spec = tie.close (tie.spec (λ c. search of-long) (search rules) (λ c. search (put-outside getattr-res-writer)) (search rules) (λ c. search (put-short getattr-res-writer)) (search rules) (search rules) (search rules) (search rules) (search rules) (λ c. search (lays_all getattr-res-writer, ok-lays getattr-res-status)) (search rules) (λ c. search (lays_all getattr-res-writer, alone-lays getattr-res-status)))
