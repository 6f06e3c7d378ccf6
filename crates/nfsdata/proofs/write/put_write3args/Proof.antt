-- made by tools/generate from crates/nfsdata/rfc/write.x
use borrow.Author.Rules.{rules}
use Rattle.xdr.specs.Laws.Write.{of-long}
use Rattle.xdr.specs.Laws.Writers.{put-outside, put-short}
use Rattle.xdr.specs.Laws.Fields.{lays_all}
use Rattle.nfsdata.specs.Laws.Write.{write-args-writer, write-args-lays}
use Rattle.nfsdata.proofs.write.put_write3args.Statement.{statement}
use Rattle.nfsdata.proofs.write.put_write3args.Tie as tie

pub put_write3args_spec : {M : Type 1} → statement M
put_write3args_spec = tie.close (tie.spec (λ c. search of-long) (search rules) (λ c. search (put-outside write-args-writer)) (search rules) (λ c. search (put-short write-args-writer)) (search rules) (search rules) (λ c. search (lays_all write-args-writer, write-args-lays)))
