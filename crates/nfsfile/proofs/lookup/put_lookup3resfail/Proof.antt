-- made by tools/generate from crates/nfsfile/rfc/lookup.x
use borrow.Author.Rules.{rules}
use Rattle.nfsfile.specs.Laws.Lookup.{lookup-resfail-laid}
use Rattle.nfsfile.proofs.lookup.put_lookup3resfail.Statement.{statement}
use Rattle.nfsfile.proofs.lookup.put_lookup3resfail.Tie as tie

pub put_lookup3resfail_spec : {M : Type 1} → statement M
put_lookup3resfail_spec = tie.close (tie.spec (search rules) (search rules) (λ c. search lookup-resfail-laid))
