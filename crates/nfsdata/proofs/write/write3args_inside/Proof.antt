-- made by tools/generate from crates/nfsdata/rfc/write.x
use borrow.Author.Rules.{rules}
use Rattle.nfsdata.specs.Laws.Write.{write-args-inside}
use Rattle.nfsdata.proofs.write.write3args_inside.Statement.{statement}
use Rattle.nfsdata.proofs.write.write3args_inside.Tie as tie

pub write3args_inside_spec : {M : Type 1} → statement M
write3args_inside_spec = tie.close (tie.spec (search rules) (search rules) (λ c. search write-args-inside))
