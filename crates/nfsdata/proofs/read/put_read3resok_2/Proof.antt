-- made by tools/generate from crates/nfsdata/rfc/read.x
use borrow.Author.Rules.{rules}
use Rattle.xdr.specs.Laws.Fixed.{word-fixed}
use Rattle.xdr.specs.Laws.Fields.{lays-none, fixed-writer, lays-both, lays-of, lays-codec}
use Rattle.nfsdata.specs.Laws.Read.{read-resok-3}
use Rattle.nfsdata.proofs.read.put_read3resok_2.Statement.{statement}
use Rattle.nfsdata.proofs.read.put_read3resok_2.Tie as tie

pub put_read3resok_2_spec : {M : Type 1} → statement M
put_read3resok_2_spec = tie.close (tie.spec (λ c. search (lays-none (fixed-writer word-fixed) read-resok-3)) (search rules) (search rules) (search rules) (search rules) (search rules) (search rules) (search rules) (search rules) (search rules) (λ c. search (lays-both (fixed-writer word-fixed) read-resok-3, lays-of, lays-codec)))
