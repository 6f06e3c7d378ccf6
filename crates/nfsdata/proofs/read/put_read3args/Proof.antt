-- made by tools/generate from crates/nfsdata/rfc/read.x
use borrow.Author.Rules.{rules}
use Rattle.xdr.specs.Laws.Write.{of-long}
use Rattle.xdr.specs.Laws.Writers.{put-outside, put-short}
use Rattle.xdr.specs.Laws.Fields.{lays_all}
use Rattle.nfsdata.specs.Laws.Read.{read-args-writer, read-args-lays}
use Rattle.nfsdata.proofs.read.put_read3args.Statement.{statement}
use Rattle.nfsdata.proofs.read.put_read3args.Tie as tie

pub put_read3args_spec : {M : Type 1} → statement M
put_read3args_spec = tie.close (tie.spec (λ c. search of-long) (search rules) (λ c. search (put-outside read-args-writer)) (search rules) (λ c. search (put-short read-args-writer)) (search rules) (search rules) (λ c. search (lays_all read-args-writer, read-args-lays)))
