use borrow.Author.Rules.{rules}
use Rattle.nfs.specs.Laws.Write.{dont-size, server-size, client-size}
use Rattle.nfs.specs.Laws.Bytes.{set-mtime-timed}
use Rattle.nfs.proofs.put.set.set_mtime_size.Statement.{statement}
use Rattle.nfs.proofs.put.set.set_mtime_size.Tie as tie

pub set_mtime_size_spec : {M : Type 1} → statement M
set_mtime_size_spec =
    tie.close
    (tie.spec
    (search rules) (search rules) (search rules) (search rules) (λ c. search (dont-size set-mtime-timed))
    (λ c. search (server-size set-mtime-timed)) (λ c. search (client-size set-mtime-timed)))
