-- made by tools/generate from crates/nfsdata/rfc/read.x
use borrow.Author.Rules.{rules}
use Rattle.xdr.specs.Laws.Lays.{sums}
use Rattle.xdr.specs.Laws.Fields.{codec-writer}
use Rattle.xdr.specs.Laws.Status.{ok-size, failed-size}
use Rattle.nfsattr.specs.Laws.Sizes.{nfsstat-fixed}
use Rattle.nfsdata.specs.Laws.Read.{read-resok-most, read-resfail-small, read-res-status, read-resok-writer}
use Rattle.nfsdata.specs.Meaning.Read.{read_resfail}
use Rattle.nfsdata.proofs.read.read3res_size.Statement.{statement}
use Rattle.nfsdata.proofs.read.read3res_size.Tie as tie

pub read3res_size_spec : {M : Type 1} → statement M
read3res_size_spec = tie.close (tie.spec (search rules) (search rules) (λ c. search (sums, read-resok-most)) (search rules) (search rules) (λ c. search (sums, read-resfail-small)) (λ c. search (ok-size read-res-status nfsstat-fixed read-resok-writer (codec-writer read_resfail))) (λ c. search (failed-size read-res-status nfsstat-fixed read-resok-writer (codec-writer read_resfail))))
