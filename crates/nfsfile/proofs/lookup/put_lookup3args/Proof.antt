-- made by tools/generate from crates/nfsfile/rfc/lookup.x
use borrow.Author.Rules.{rules}
use Rattle.nfsfile.specs.Laws.Lookup.{lookup-args-laid}
use Rattle.nfsfile.proofs.lookup.put_lookup3args.Statement.{statement}
use Rattle.nfsfile.proofs.lookup.put_lookup3args.Tie as tie

pub put_lookup3args_spec : {M : Type 1} → statement M
put_lookup3args_spec = tie.close (tie.spec (search rules) (search rules) (λ c. search lookup-args-laid))
