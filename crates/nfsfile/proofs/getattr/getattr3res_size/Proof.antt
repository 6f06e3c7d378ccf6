-- made by tools/generate from crates/nfsfile/rfc/getattr.x
use borrow.Author.Rules.{rules}
use Rattle.xdr.specs.Meaning.Codecs.{void}
use Rattle.xdr.specs.Laws.Fields.{fixed-writer, codec-writer}
use Rattle.xdr.specs.Laws.Status.{ok-fixed, alone-size}
use Rattle.nfsattr.specs.Laws.Sizes.{nfsstat-fixed}
use Rattle.nfsfile.specs.Laws.Getattr.{getattr-res-status, getattr-resok-fixed}
use Rattle.nfsfile.proofs.getattr.getattr3res_size.Statement.{statement}
use Rattle.nfsfile.proofs.getattr.getattr3res_size.Tie as tie

pub getattr3res_size_spec : {M : Type 1} → statement M
getattr3res_size_spec = tie.close (tie.spec (search rules) (search rules) (λ c. search (ok-fixed getattr-res-status nfsstat-fixed (fixed-writer getattr-resok-fixed) (codec-writer void))) (λ c. search (alone-size getattr-res-status nfsstat-fixed (fixed-writer getattr-resok-fixed) (codec-writer void))))
