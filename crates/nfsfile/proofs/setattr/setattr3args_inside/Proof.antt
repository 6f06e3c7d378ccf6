-- made by tools/generate from crates/nfsfile/rfc/setattr.x
use borrow.Author.Rules.{rules}
use Rattle.nfsfile.specs.Laws.Setattr.{setattr-args-inside}
use Rattle.nfsfile.proofs.setattr.setattr3args_inside.Statement.{statement}
use Rattle.nfsfile.proofs.setattr.setattr3args_inside.Tie as tie

pub setattr3args_inside_spec : {M : Type 1} → statement M
setattr3args_inside_spec = tie.close (tie.spec (search rules) (λ c. search setattr-args-inside))
