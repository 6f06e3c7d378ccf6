-- made by tools/generate from crates/nfsdata/rfc/read.x
use borrow.Author.Rules.{rules}
use Rattle.nfsdata.specs.Laws.Read.{read-args-inside}
use Rattle.nfsdata.proofs.read.read3args_inside.Statement.{statement}
use Rattle.nfsdata.proofs.read.read3args_inside.Tie as tie

pub read3args_inside_spec : {M : Type 1} → statement M
read3args_inside_spec = tie.close (tie.spec (search rules) (λ c. search read-args-inside))
