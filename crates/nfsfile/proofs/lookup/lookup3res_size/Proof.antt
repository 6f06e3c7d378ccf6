-- made by tools/generate from crates/nfsfile/rfc/lookup.x
use borrow.Author.Rules.{rules}
use Rattle.xdr.specs.Laws.Lays.{sums}
use Rattle.xdr.specs.Laws.Fields.{codec-writer}
use Rattle.xdr.specs.Laws.Status.{ok-size, failed-size}
use Rattle.nfsattr.specs.Laws.Sizes.{nfsstat-fixed}
use Rattle.nfsfile.specs.Laws.Lookup.{lookup-resok-most, lookup-resfail-small, lookup-res-status, lookup-resok-writer}
use Rattle.nfsfile.specs.Meaning.Lookup.{lookup_resfail}
use Rattle.nfsfile.proofs.lookup.lookup3res_size.Statement.{statement}
use Rattle.nfsfile.proofs.lookup.lookup3res_size.Tie as tie

pub lookup3res_size_spec : {M : Type 1} → statement M
lookup3res_size_spec = tie.close (tie.spec (search rules) (search rules) (λ c. search (sums, lookup-resok-most)) (search rules) (search rules) (λ c. search (sums, lookup-resfail-small)) (λ c. search (ok-size lookup-res-status nfsstat-fixed lookup-resok-writer (codec-writer lookup_resfail))) (λ c. search (failed-size lookup-res-status nfsstat-fixed lookup-resok-writer (codec-writer lookup_resfail))))
