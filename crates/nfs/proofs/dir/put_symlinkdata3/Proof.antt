-- made by tools/generate from crates/nfs/rfc/dir.x
use borrow.Author.Rules.{rules}
use Rattle.xdr.specs.Laws.Write.{of-long}
use Rattle.xdr.specs.Laws.Writers.{put-outside, put-short}
use Rattle.xdr.specs.Laws.Fields.{lays_all}
use Rattle.nfs.specs.Laws.Dir.{symlinkdata-writer, symlinkdata-lays}
use Rattle.nfs.proofs.dir.put_symlinkdata3.Statement.{statement}
use Rattle.nfs.proofs.dir.put_symlinkdata3.Tie as tie

pub put_symlinkdata3_spec : {M : Type 1} → statement M
put_symlinkdata3_spec = tie.close (tie.spec (λ c. search of-long) (search rules) (λ c. search (put-outside symlinkdata-writer)) (search rules) (λ c. search (put-short symlinkdata-writer)) (search rules) (search rules) (λ c. search (lays_all symlinkdata-writer, symlinkdata-lays)))
