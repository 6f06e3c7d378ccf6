-- made by tools/generate from crates/nfs/rfc/dir.x
use borrow.Author.Rules.{rules}
use Rattle.xdr.specs.Laws.Optional.{void-marks, value-marks}
use Rattle.nfs.specs.Laws.Dir.{post-op-fh-optional}
use Rattle.nfs.proofs.dir.post_op_fh3.marks.Statement.{statement}
use Rattle.nfs.proofs.dir.post_op_fh3.marks.Tie as tie

pub marks_spec : {M : Type 1} → statement M
marks_spec = tie.close (tie.spec (search rules) (search rules) (search rules) (λ c. search (void-marks post-op-fh-optional)) (λ c. search (value-marks post-op-fh-optional)))
