-- made by tools/generate from crates/nfs/rfc/dir.x
use borrow.Author.Rules.{rules}
use Rattle.xdr.specs.Laws.Fixed.{flag-fixed}
use Rattle.xdr.specs.Laws.Fields.{lays-none, fixed-writer, lays-both, lays-of, lays-codec}
use Rattle.nfs.specs.Laws.Dir.{nfs-fh-writer}
use Rattle.nfs.proofs.dir.put_post_op_fh3_1.Statement.{statement}
use Rattle.nfs.proofs.dir.put_post_op_fh3_1.Tie as tie

pub put_post_op_fh3_1_spec : {M : Type 1} → statement M
put_post_op_fh3_1_spec = tie.close (tie.spec (λ c. search (lays-none (fixed-writer flag-fixed) nfs-fh-writer)) (search rules) (search rules) (search rules) (search rules) (search rules) (search rules) (search rules) (search rules) (search rules) (λ c. search (lays-both (fixed-writer flag-fixed) nfs-fh-writer, lays-of, lays-codec)))
