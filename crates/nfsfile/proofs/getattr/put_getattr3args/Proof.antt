-- made by tools/generate from crates/nfsfile/rfc/getattr.x
use borrow.Author.Rules.{rules}
use Rattle.nfsfile.specs.Laws.Getattr.{getattr-args-laid}
use Rattle.nfsfile.proofs.getattr.put_getattr3args.Statement.{statement}
use Rattle.nfsfile.proofs.getattr.put_getattr3args.Tie as tie

pub put_getattr3args_spec : {M : Type 1} → statement M
put_getattr3args_spec = tie.close (tie.spec (search rules) (search rules) (λ c. search getattr-args-laid))
