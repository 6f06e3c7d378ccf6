-- made by tools/generate from crates/nfs/rfc/dir.x
use borrow.Author.Rules.{rules}
use Rattle.xdr.specs.Laws.Writers.{bytes-writer}
use Rattle.xdr.specs.Laws.Fields.{lays-none, lays-both, lays-of, lays-codec}
use Rattle.nfs.specs.Laws.Dir.{nfs-fh-writer}
use Rattle.nfs.proofs.dir.put_diropargs3_1.Statement.{statement}
use Rattle.nfs.proofs.dir.put_diropargs3_1.Tie as tie

pub put_diropargs3_1_spec : {M : Type 1} → statement M
put_diropargs3_1_spec = tie.close (tie.spec (search rules) (λ c. search (lays-none nfs-fh-writer bytes-writer)) (search rules) (search rules) (search rules) (search rules) (search rules) (search rules) (search rules) (search rules) (search rules) (λ c. search (lays-both nfs-fh-writer bytes-writer, lays-of, lays-codec)))
