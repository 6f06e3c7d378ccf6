-- made by tools/generate from crates/nfsfile/rfc/lookup.x
use borrow.Author.Rules.{rules}
use Rattle.nfsfile.specs.Laws.Lookup.{lookup-resok-inside}
use Rattle.nfsfile.proofs.lookup.lookup3resok_inside.Statement.{statement}
use Rattle.nfsfile.proofs.lookup.lookup3resok_inside.Tie as tie

pub lookup3resok_inside_spec : {M : Type 1} → statement M
lookup3resok_inside_spec = tie.close (tie.spec (search rules) (λ c. search lookup-resok-inside))
