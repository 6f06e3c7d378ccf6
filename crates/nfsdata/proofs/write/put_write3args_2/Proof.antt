-- made by tools/generate from crates/nfsdata/rfc/write.x
use borrow.Author.Rules.{rules}
use Rattle.xdr.specs.Laws.Fixed.{hyper-fixed}
use Rattle.xdr.specs.Laws.Fields.{lays-none, fixed-writer, lays-both, lays-of, lays-codec}
use Rattle.nfsdata.specs.Laws.Write.{write-args-3}
use Rattle.nfsdata.proofs.write.put_write3args_2.Statement.{statement}
use Rattle.nfsdata.proofs.write.put_write3args_2.Tie as tie

pub put_write3args_2_spec : {M : Type 1} → statement M
put_write3args_2_spec = tie.close (tie.spec (λ c. search (lays-none (fixed-writer hyper-fixed) write-args-3)) (search rules) (search rules) (search rules) (search rules) (search rules) (search rules) (search rules) (search rules) (search rules) (λ c. search (lays-both (fixed-writer hyper-fixed) write-args-3, lays-of, lays-codec)))
