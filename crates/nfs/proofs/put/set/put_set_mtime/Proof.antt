use borrow.Author.Rules.{rules}
use Rattle.xdr.specs.Laws.Lays.{lays}
use Rattle.nfs.specs.Laws.Write.{dont-bytes, server-bytes, client-bytes}
use Rattle.nfs.specs.Laws.Bytes.{set-mtime-timed}
use Rattle.nfs.proofs.put.set.put_set_mtime.Statement.{statement}
use Rattle.nfs.proofs.put.set.put_set_mtime.Tie as tie

pub put_set_mtime_spec : {M : Type 1} → statement M
put_set_mtime_spec =
    tie.close
    (tie.spec
    (search rules) (search rules) (search rules) (search rules) (search rules) (search rules) (search rules)
    (λ c. search (lays, dont-bytes set-mtime-timed)) (search rules) (λ c. search (lays, server-bytes set-mtime-timed)) (search rules)
    (λ c. search (lays, client-bytes set-mtime-timed)))
