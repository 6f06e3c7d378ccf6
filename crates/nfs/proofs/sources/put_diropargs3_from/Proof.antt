use borrow.Author.Rules.{rules}
use Rattle.nfs.specs.Laws.Sources.{dir-from-put}
use Rattle.nfs.proofs.sources.put_diropargs3_from.Statement.{statement}
use Rattle.nfs.proofs.sources.put_diropargs3_from.Tie as tie

pub put_diropargs3_from_spec : {M : Type 1} → statement M
put_diropargs3_from_spec =
    tie.close
    (tie.spec
    (search rules) (search rules) (search rules) (search rules) (search rules) (search rules) (search rules) (λ c. search dir-from-put))
