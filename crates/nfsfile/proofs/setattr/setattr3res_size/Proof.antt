-- made by tools/generate from crates/nfsfile/rfc/setattr.x
use borrow.Author.Rules.{rules}
use Rattle.xdr.specs.Laws.Lays.{sums}
use Rattle.xdr.specs.Laws.Fields.{codec-writer}
use Rattle.xdr.specs.Laws.Status.{ok-size, failed-size}
use Rattle.nfsattr.specs.Laws.Sizes.{nfsstat-fixed}
use Rattle.nfsfile.specs.Laws.Setattr.{setattr-resok-small, setattr-resfail-small, setattr-res-status}
use Rattle.nfsfile.specs.Meaning.Setattr.{setattr_resok, setattr_resfail}
use Rattle.nfsfile.proofs.setattr.setattr3res_size.Statement.{statement}
use Rattle.nfsfile.proofs.setattr.setattr3res_size.Tie as tie

pub setattr3res_size_spec : {M : Type 1} → statement M
setattr3res_size_spec = tie.close (tie.spec (search rules) (search rules) (λ c. search (sums, setattr-resok-small)) (search rules) (search rules) (λ c. search (sums, setattr-resfail-small)) (λ c. search (ok-size setattr-res-status nfsstat-fixed (codec-writer setattr_resok) (codec-writer setattr_resfail))) (λ c. search (failed-size setattr-res-status nfsstat-fixed (codec-writer setattr_resok) (codec-writer setattr_resfail))))
