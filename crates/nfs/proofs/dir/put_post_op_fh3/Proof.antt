-- made by tools/generate from crates/nfs/rfc/dir.x
use borrow.Author.Rules.{rules}
use Rattle.xdr.specs.Laws.Write.{of-long}
use Rattle.xdr.specs.Laws.Writers.{put-outside, put-short}
use Rattle.xdr.specs.Laws.Fields.{lays_all}
use Rattle.xdr.specs.Laws.Optional.{held-void, held-value}
use Rattle.nfs.specs.Laws.Dir.{post-op-fh-writer, post-op-fh-optional}
use Rattle.nfs.proofs.dir.put_post_op_fh3.Statement.{statement}
use Rattle.nfs.proofs.dir.put_post_op_fh3.Tie as tie

pub put_post_op_fh3_spec : {M : Type 1} → statement M
put_post_op_fh3_spec = tie.close (tie.spec (λ c. search of-long) (search rules) (λ c. search (put-outside post-op-fh-writer)) (search rules) (λ c. search (put-short post-op-fh-writer)) (search rules) (search rules) (search rules) (search rules) (search rules) (λ c. search (lays_all post-op-fh-writer, held-void post-op-fh-optional)) (search rules) (λ c. search (lays_all post-op-fh-writer, held-value post-op-fh-optional)))
