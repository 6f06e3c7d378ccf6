-- made by tools/generate from crates/nfsdata/rfc/write.x
use borrow.Author.Rules.{rules}
use Rattle.xdr.specs.Laws.Lays.{lays}
use Rattle.xdr.specs.Laws.Fields.{lays-plain}
use Rattle.nfsdata.specs.Laws.Write.{write-resok-lays}
use Rattle.nfsdata.proofs.write.put_write3resok.Statement.{statement}
use Rattle.nfsdata.proofs.write.put_write3resok.Tie as tie

pub put_write3resok_spec : {M : Type 1} → statement M
put_write3resok_spec = tie.close (tie.spec (search rules) (λ c. search lays) (search rules) (search rules) (λ c. search (rules, lays-plain, write-resok-lays)))
