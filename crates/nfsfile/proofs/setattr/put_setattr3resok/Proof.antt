-- made by tools/generate from crates/nfsfile/rfc/setattr.x
use borrow.Author.Rules.{rules}
use Rattle.nfsfile.specs.Laws.Setattr.{setattr-resok-laid}
use Rattle.nfsfile.proofs.setattr.put_setattr3resok.Statement.{statement}
use Rattle.nfsfile.proofs.setattr.put_setattr3resok.Tie as tie

pub put_setattr3resok_spec : {M : Type 1} → statement M
put_setattr3resok_spec = tie.close (tie.spec (search rules) (search rules) (λ c. search setattr-resok-laid))
