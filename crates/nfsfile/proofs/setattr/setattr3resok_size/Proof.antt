-- made by tools/generate from crates/nfsfile/rfc/setattr.x
use borrow.Author.Rules.{rules}
use Rattle.nfsfile.specs.Laws.Setattr.{setattr-resok-size}
use Rattle.nfsfile.proofs.setattr.setattr3resok_size.Statement.{statement}
use Rattle.nfsfile.proofs.setattr.setattr3resok_size.Tie as tie

pub setattr3resok_size_spec : {M : Type 1} → statement M
setattr3resok_size_spec = tie.close (tie.spec (search rules) (λ c. search setattr-resok-size))
