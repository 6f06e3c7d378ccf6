use borrow.Author.Rules.{rules}
use Rattle.nfs.specs.Laws.Write.{dont-size, server-size, client-size}
use Rattle.nfs.specs.Laws.Bytes.{set-atime-timed}
use Rattle.nfs.proofs.put.set.set_atime_size.Statement.{statement}
use Rattle.nfs.proofs.put.set.set_atime_size.Tie as tie

pub set_atime_size_spec : {M : Type 1} → statement M
set_atime_size_spec =
    tie.close
    (tie.spec
    (search rules) (search rules) (search rules) (search rules) (λ c. search (dont-size set-atime-timed))
    (λ c. search (server-size set-atime-timed)) (λ c. search (client-size set-atime-timed)))
