-- made by tools/generate from crates/nfsfile/rfc/setattr.x
use borrow.Author.Rules.{rules}
use Rattle.xdr.specs.Laws.Write.{of-long}
use Rattle.xdr.specs.Laws.Writers.{put-outside, put-short}
use Rattle.xdr.specs.Laws.Fields.{lays_all}
use Rattle.nfsfile.specs.Laws.Setattr.{setattr-args-writer, setattr-args-lays}
use Rattle.nfsfile.proofs.setattr.put_setattr3args.Statement.{statement}
use Rattle.nfsfile.proofs.setattr.put_setattr3args.Tie as tie

pub put_setattr3args_spec : {M : Type 1} → statement M
put_setattr3args_spec = tie.close (tie.spec (λ c. search of-long) (search rules) (λ c. search (put-outside setattr-args-writer)) (search rules) (λ c. search (put-short setattr-args-writer)) (search rules) (search rules) (λ c. search (lays_all setattr-args-writer, setattr-args-lays)))
