-- made by tools/generate from crates/nfsfile/rfc/lookup.x
use borrow.Author.Rules.{rules}
use Rattle.nfsfile.specs.Laws.Lookup.{lookup-resfail-size}
use Rattle.nfsfile.proofs.lookup.lookup3resfail_size.Statement.{statement}
use Rattle.nfsfile.proofs.lookup.lookup3resfail_size.Tie as tie

pub lookup3resfail_size_spec : {M : Type 1} → statement M
lookup3resfail_size_spec = tie.close (tie.spec (search rules) (λ c. search lookup-resfail-size))
