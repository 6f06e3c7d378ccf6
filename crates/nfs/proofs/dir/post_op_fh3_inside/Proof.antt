-- made by tools/generate from crates/nfs/rfc/dir.x
use borrow.Author.Rules.{rules}
use Rattle.xdr.specs.Laws.Optional.{void-inside, value-inside}
use Rattle.nfs.specs.Laws.Dir.{post-op-fh-optional}
use Rattle.nfs.proofs.dir.post_op_fh3_inside.Statement.{statement}
use Rattle.nfs.proofs.dir.post_op_fh3_inside.Tie as tie

pub post_op_fh3_inside_spec : {M : Type 1} → statement M
post_op_fh3_inside_spec = tie.close (tie.spec (search rules) (search rules) (search rules) (λ c. search (void-inside post-op-fh-optional)) (λ c. search (value-inside post-op-fh-optional)))
