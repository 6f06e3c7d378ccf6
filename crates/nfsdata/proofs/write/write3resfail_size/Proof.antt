-- made by tools/generate from crates/nfsdata/rfc/write.x
use borrow.Author.Rules.{rules}
use Rattle.nfsdata.specs.Laws.Write.{write-resfail-size}
use Rattle.nfsdata.proofs.write.write3resfail_size.Statement.{statement}
use Rattle.nfsdata.proofs.write.write3resfail_size.Tie as tie

pub write3resfail_size_spec : {M : Type 1} → statement M
write3resfail_size_spec = tie.close (tie.spec (search rules) (λ c. search write-resfail-size))
