-- made by tools/generate from crates/nfsfile/rfc/setattr.x
use borrow.Author.Rules.{rules}
use Rattle.nfsfile.specs.Laws.Setattr.{setattr-resfail-laid}
use Rattle.nfsfile.proofs.setattr.put_setattr3resfail.Statement.{statement}
use Rattle.nfsfile.proofs.setattr.put_setattr3resfail.Tie as tie

pub put_setattr3resfail_spec : {M : Type 1} → statement M
put_setattr3resfail_spec = tie.close (tie.spec (search rules) (search rules) (λ c. search setattr-resfail-laid))
