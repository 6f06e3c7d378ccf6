-- made by tools/generate from crates/nfsdata/rfc/read.x
use borrow.Author.Rules.{rules}
use Rattle.xdr.specs.Laws.Fields.{lays-none, codec-writer, lays-both, lays-of, lays-codec}
use Rattle.nfsattr.specs.Meaning.Attr.{post-op-attr}
use Rattle.nfsdata.specs.Laws.Read.{read-resok-2}
use Rattle.nfsdata.proofs.read.put_read3resok_1.Statement.{statement}
use Rattle.nfsdata.proofs.read.put_read3resok_1.Tie as tie

pub put_read3resok_1_spec : {M : Type 1} → statement M
put_read3resok_1_spec = tie.close (tie.spec (search rules) (λ c. search (lays-none (codec-writer post-op-attr) read-resok-2)) (search rules) (search rules) (search rules) (search rules) (search rules) (search rules) (search rules) (search rules) (search rules) (λ c. search (lays-both (codec-writer post-op-attr) read-resok-2, lays-of, lays-codec)))
