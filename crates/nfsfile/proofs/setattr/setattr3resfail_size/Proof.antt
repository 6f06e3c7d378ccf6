-- made by tools/generate from crates/nfsfile/rfc/setattr.x
use borrow.Author.Rules.{rules}
use Rattle.nfsfile.specs.Laws.Setattr.{setattr-resfail-size}
use Rattle.nfsfile.proofs.setattr.setattr3resfail_size.Statement.{statement}
use Rattle.nfsfile.proofs.setattr.setattr3resfail_size.Tie as tie

pub setattr3resfail_size_spec : {M : Type 1} → statement M
setattr3resfail_size_spec = tie.close (tie.spec (search rules) (λ c. search setattr-resfail-size))
