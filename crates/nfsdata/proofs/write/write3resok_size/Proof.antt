-- made by tools/generate from crates/nfsdata/rfc/write.x
use borrow.Author.Rules.{rules}
use Rattle.xdr.specs.Laws.Lays.{sums}
use Rattle.nfsattr.specs.Laws.Bytes.{wcc-data-small}
use Rattle.nfsdata.specs.Laws.Write.{write-resok-size}
use Rattle.nfsdata.proofs.write.write3resok_size.Statement.{statement}
use Rattle.nfsdata.proofs.write.write3resok_size.Tie as tie

pub write3resok_size_spec : {M : Type 1} → statement M
write3resok_size_spec = tie.close (tie.spec (search rules) (λ c. search (sums, wcc-data-small)) (λ c. search write-resok-size))
