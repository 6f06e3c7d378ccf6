-- made by tools/generate from crates/nfsdata/rfc/write.x
use borrow.Author.Rules.{rules}
use Rattle.xdr.specs.Laws.Fields.{lays-none, codec-writer, lays-both, lays-of, lays-codec}
use Rattle.nfsattr.specs.Meaning.Attr.{wcc-data}
use Rattle.nfsdata.specs.Laws.Write.{write-resok-2}
use Rattle.nfsdata.proofs.write.put_write3resok_1.Statement.{statement}
use Rattle.nfsdata.proofs.write.put_write3resok_1.Tie as tie

pub put_write3resok_1_spec : {M : Type 1} → statement M
put_write3resok_1_spec = tie.close (tie.spec (search rules) (λ c. search (lays-none (codec-writer wcc-data) write-resok-2)) (search rules) (search rules) (search rules) (search rules) (search rules) (search rules) (search rules) (search rules) (search rules) (λ c. search (lays-both (codec-writer wcc-data) write-resok-2, lays-of, lays-codec)))
