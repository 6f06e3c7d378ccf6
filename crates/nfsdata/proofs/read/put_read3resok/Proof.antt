-- made by tools/generate from crates/nfsdata/rfc/read.x
use borrow.Author.Rules.{rules}
use Rattle.xdr.specs.Laws.Write.{of-long}
use Rattle.xdr.specs.Laws.Writers.{put-outside, put-short}
use Rattle.xdr.specs.Laws.Fields.{lays_all}
use Rattle.nfsdata.specs.Laws.Read.{read-resok-writer, read-resok-lays}
use Rattle.nfsdata.proofs.read.put_read3resok.Statement.{statement}
use Rattle.nfsdata.proofs.read.put_read3resok.Tie as tie

pub put_read3resok_spec : {M : Type 1} → statement M
put_read3resok_spec = tie.close (tie.spec (λ c. search of-long) (search rules) (λ c. search (put-outside read-resok-writer)) (search rules) (λ c. search (put-short read-resok-writer)) (search rules) (search rules) (λ c. search (lays_all read-resok-writer, read-resok-lays)))
