-- made by tools/generate from crates/nfs/rfc/dir.x
use borrow.Author.Rules.{rules}
use Rattle.xdr.specs.Laws.Lays.{sums}
use Rattle.xdr.specs.Laws.Optional.{void-size, value-size}
use Rattle.nfs.specs.Laws.Dir.{nfs-fh-most, post-op-fh-optional, nfs-fh-writer}
use Rattle.nfs.proofs.dir.post_op_fh3_size.Statement.{statement}
use Rattle.nfs.proofs.dir.post_op_fh3_size.Tie as tie

pub post_op_fh3_size_spec : {M : Type 1} → statement M
post_op_fh3_size_spec = tie.close (tie.spec (search rules) (search rules) (search rules) (λ c. search (sums, nfs-fh-most)) (λ c. search (void-size post-op-fh-optional nfs-fh-writer)) (λ c. search (value-size post-op-fh-optional nfs-fh-writer)))
