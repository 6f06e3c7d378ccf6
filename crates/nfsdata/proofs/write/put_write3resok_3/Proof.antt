-- made by tools/generate from crates/nfsdata/rfc/write.x
use borrow.Author.Rules.{rules}
use Rattle.xdr.specs.Laws.Fixed.{hyper-fixed}
use Rattle.xdr.specs.Laws.Fields.{lays-none, fixed-writer, lays-both, lays-of, lays-codec}
use Rattle.nfsdata.specs.Laws.Write.{stable-how-fixed}
use Rattle.nfsdata.proofs.write.put_write3resok_3.Statement.{statement}
use Rattle.nfsdata.proofs.write.put_write3resok_3.Tie as tie

pub put_write3resok_3_spec : {M : Type 1} → statement M
put_write3resok_3_spec = tie.close (tie.spec (λ c. search (lays-none (fixed-writer stable-how-fixed) (fixed-writer hyper-fixed))) (search rules) (search rules) (search rules) (search rules) (search rules) (search rules) (search rules) (search rules) (search rules) (λ c. search (lays-both (fixed-writer stable-how-fixed) (fixed-writer hyper-fixed), lays-of, lays-codec)))
