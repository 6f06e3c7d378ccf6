-- made by tools/generate from crates/nfsfile/rfc/getattr.x
use borrow.Author.Rules.{rules}
use Rattle.nfsfile.specs.Laws.Getattr.{getattr-args-inside}
use Rattle.nfsfile.proofs.getattr.getattr3args_inside.Statement.{statement}
use Rattle.nfsfile.proofs.getattr.getattr3args_inside.Tie as tie

pub getattr3args_inside_spec : {M : Type 1} → statement M
getattr3args_inside_spec = tie.close (tie.spec (search rules) (λ c. search getattr-args-inside))
