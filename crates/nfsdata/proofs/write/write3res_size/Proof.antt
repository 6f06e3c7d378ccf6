-- made by tools/generate from crates/nfsdata/rfc/write.x
use borrow.Author.Rules.{rules}
use Rattle.xdr.specs.Laws.Lays.{sums}
use Rattle.xdr.specs.Laws.Fields.{codec-writer}
use Rattle.xdr.specs.Laws.Status.{ok-size, failed-size}
use Rattle.nfsattr.specs.Laws.Sizes.{nfsstat-fixed}
use Rattle.nfsdata.specs.Laws.Write.{write-resok-small, write-resfail-small, write-res-status}
use Rattle.nfsdata.specs.Meaning.Write.{write_resok, write_resfail}
use Rattle.nfsdata.proofs.write.write3res_size.Statement.{statement}
use Rattle.nfsdata.proofs.write.write3res_size.Tie as tie

pub write3res_size_spec : {M : Type 1} → statement M
write3res_size_spec = tie.close (tie.spec (search rules) (search rules) (λ c. search (sums, write-resok-small)) (search rules) (search rules) (λ c. search (sums, write-resfail-small)) (λ c. search (ok-size write-res-status nfsstat-fixed (codec-writer write_resok) (codec-writer write_resfail))) (λ c. search (failed-size write-res-status nfsstat-fixed (codec-writer write_resok) (codec-writer write_resfail))))
