-- made by tools/generate from crates/nfsdata/rfc/write.x
use borrow.Author.Rules.{rules}
use Rattle.nfsdata.specs.Laws.Write.{write-resfail-laid}
use Rattle.nfsdata.proofs.write.put_write3resfail.Statement.{statement}
use Rattle.nfsdata.proofs.write.put_write3resfail.Tie as tie

pub put_write3resfail_spec : {M : Type 1} → statement M
put_write3resfail_spec = tie.close (tie.spec (search rules) (search rules) (λ c. search write-resfail-laid))
