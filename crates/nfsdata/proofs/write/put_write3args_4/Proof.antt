-- made by tools/generate from crates/nfsdata/rfc/write.x
use borrow.Author.Rules.{rules}
use Rattle.xdr.specs.Laws.Writers.{bytes-writer}
use Rattle.xdr.specs.Laws.Fields.{lays-none, fixed-writer, lays-both, lays-of, lays-codec}
use Rattle.nfsdata.specs.Laws.Write.{stable-how-fixed}
use Rattle.nfsdata.proofs.write.put_write3args_4.Statement.{statement}
use Rattle.nfsdata.proofs.write.put_write3args_4.Tie as tie

pub put_write3args_4_spec : {M : Type 1} → statement M
put_write3args_4_spec = tie.close (tie.spec (λ c. search (lays-none (fixed-writer stable-how-fixed) bytes-writer)) (search rules) (search rules) (search rules) (search rules) (search rules) (search rules) (search rules) (search rules) (search rules) (λ c. search (lays-both (fixed-writer stable-how-fixed) bytes-writer, lays-of, lays-codec)))
