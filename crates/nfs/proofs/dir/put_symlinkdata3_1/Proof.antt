-- made by tools/generate from crates/nfs/rfc/dir.x
use borrow.Author.Rules.{rules}
use Rattle.xdr.specs.Laws.Writers.{bytes-writer}
use Rattle.xdr.specs.Laws.Fields.{lays-none, codec-writer, lays-both, lays-of, lays-codec}
use Rattle.nfs.specs.Meaning.Set.{sattr}
use Rattle.nfs.proofs.dir.put_symlinkdata3_1.Statement.{statement}
use Rattle.nfs.proofs.dir.put_symlinkdata3_1.Tie as tie

pub put_symlinkdata3_1_spec : {M : Type 1} → statement M
put_symlinkdata3_1_spec = tie.close (tie.spec (search rules) (λ c. search (lays-none (codec-writer sattr) bytes-writer)) (search rules) (search rules) (search rules) (search rules) (search rules) (search rules) (search rules) (search rules) (search rules) (λ c. search (lays-both (codec-writer sattr) bytes-writer, lays-of, lays-codec)))
