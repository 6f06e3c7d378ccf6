-- made by tools/generate from crates/nfsdata/rfc/read.x
use borrow.Author.Rules.{rules}
use Rattle.nfsdata.specs.Laws.Read.{read-resok-inside}
use Rattle.nfsdata.proofs.read.read3resok_inside.Statement.{statement}
use Rattle.nfsdata.proofs.read.read3resok_inside.Tie as tie

pub read3resok_inside_spec : {M : Type 1} → statement M
read3resok_inside_spec = tie.close (tie.spec (search rules) (λ c. search read-resok-inside))
