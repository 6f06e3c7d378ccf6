-- made by tools/generate from crates/nfs/rfc/dir.x
use borrow.Author.Rules.{rules}
use Rattle.xdr.specs.Laws.Write.{of-long}
use Rattle.xdr.specs.Laws.Writers.{put-outside, put-short}
use Rattle.xdr.specs.Laws.Fields.{lays_all}
use Rattle.nfs.specs.Laws.Dir.{diropargs-writer, diropargs-lays}
use Rattle.nfs.proofs.dir.put_diropargs3.Statement.{statement}
use Rattle.nfs.proofs.dir.put_diropargs3.Tie as tie

pub put_diropargs3_spec : {M : Type 1} → statement M
put_diropargs3_spec = tie.close (tie.spec (λ c. search of-long) (search rules) (λ c. search (put-outside diropargs-writer)) (search rules) (λ c. search (put-short diropargs-writer)) (search rules) (search rules) (λ c. search (lays_all diropargs-writer, diropargs-lays)))
