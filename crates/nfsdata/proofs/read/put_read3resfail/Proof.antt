-- made by tools/generate from crates/nfsdata/rfc/read.x
use borrow.Author.Rules.{rules}
use Rattle.nfsdata.specs.Laws.Read.{read-resfail-laid}
use Rattle.nfsdata.proofs.read.put_read3resfail.Statement.{statement}
use Rattle.nfsdata.proofs.read.put_read3resfail.Tie as tie

pub put_read3resfail_spec : {M : Type 1} → statement M
put_read3resfail_spec = tie.close (tie.spec (search rules) (search rules) (λ c. search read-resfail-laid))
