-- made by tools/generate from crates/nfsfile/rfc/getattr.x
use borrow.Author.Rules.{rules}
use Rattle.xdr.specs.Laws.Fields.{lays-none, fixed-writer, lays-both, lays-of, lays-codec}
use Rattle.nfsattr.specs.Laws.Sizes.{nfsstat-fixed}
use Rattle.nfsfile.specs.Laws.Getattr.{getattr-resok-fixed}
use Rattle.nfsfile.proofs.getattr.put_getattr3res_1.Statement.{statement}
use Rattle.nfsfile.proofs.getattr.put_getattr3res_1.Tie as tie

pub put_getattr3res_1_spec : {M : Type 1} → statement M
put_getattr3res_1_spec = tie.close (tie.spec (λ c. search (lays-none (fixed-writer nfsstat-fixed) (fixed-writer getattr-resok-fixed))) (search rules) (search rules) (search rules) (search rules) (search rules) (search rules) (search rules) (search rules) (search rules) (λ c. search (lays-both (fixed-writer nfsstat-fixed) (fixed-writer getattr-resok-fixed), lays-of, lays-codec)))
