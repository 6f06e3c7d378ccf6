-- made by tools/generate from crates/nfsdata/rfc/read.x
use borrow.Author.Rules.{rules}
use Rattle.xdr.specs.Laws.Fixed.{hyper-fixed, word-fixed}
use Rattle.xdr.specs.Laws.Fields.{lays-none, fixed-writer, lays-both, lays-of, lays-codec}
use Rattle.nfsdata.proofs.read.put_read3args_2.Statement.{statement}
use Rattle.nfsdata.proofs.read.put_read3args_2.Tie as tie

pub put_read3args_2_spec : {M : Type 1} → statement M
put_read3args_2_spec = tie.close (tie.spec (λ c. search (lays-none (fixed-writer hyper-fixed) (fixed-writer word-fixed))) (search rules) (search rules) (search rules) (search rules) (search rules) (search rules) (search rules) (search rules) (search rules) (λ c. search (lays-both (fixed-writer hyper-fixed) (fixed-writer word-fixed), lays-of, lays-codec)))
