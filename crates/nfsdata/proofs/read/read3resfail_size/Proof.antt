-- made by tools/generate from crates/nfsdata/rfc/read.x
use borrow.Author.Rules.{rules}
use Rattle.nfsdata.specs.Laws.Read.{read-resfail-size}
use Rattle.nfsdata.proofs.read.read3resfail_size.Statement.{statement}
use Rattle.nfsdata.proofs.read.read3resfail_size.Tie as tie

pub read3resfail_size_spec : {M : Type 1} → statement M
read3resfail_size_spec = tie.close (tie.spec (search rules) (λ c. search read-resfail-size))
