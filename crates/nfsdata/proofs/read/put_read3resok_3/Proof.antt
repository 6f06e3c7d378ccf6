-- made by tools/generate from crates/nfsdata/rfc/read.x
use borrow.Author.Rules.{rules}
use Rattle.xdr.specs.Laws.Fixed.{flag-fixed}
use Rattle.xdr.specs.Laws.Writers.{bytes-writer}
use Rattle.xdr.specs.Laws.Fields.{lays-none, fixed-writer, lays-both, lays-of, lays-codec}
use Rattle.nfsdata.proofs.read.put_read3resok_3.Statement.{statement}
use Rattle.nfsdata.proofs.read.put_read3resok_3.Tie as tie

pub put_read3resok_3_spec : {M : Type 1} → statement M
put_read3resok_3_spec = tie.close (tie.spec (λ c. search (lays-none (fixed-writer flag-fixed) bytes-writer)) (search rules) (search rules) (search rules) (search rules) (search rules) (search rules) (search rules) (search rules) (search rules) (λ c. search (lays-both (fixed-writer flag-fixed) bytes-writer, lays-of, lays-codec)))
