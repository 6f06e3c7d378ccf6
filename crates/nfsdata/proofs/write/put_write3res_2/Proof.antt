-- made by tools/generate from crates/nfsdata/rfc/write.x
use borrow.Author.Rules.{rules}
use Rattle.xdr.specs.Laws.Fields.{lays-none, fixed-writer, codec-writer, lays-both, lays-of, lays-codec}
use Rattle.nfsattr.specs.Laws.Sizes.{nfsstat-fixed}
use Rattle.nfsdata.specs.Meaning.Write.{write_resfail}
use Rattle.nfsdata.proofs.write.put_write3res_2.Statement.{statement}
use Rattle.nfsdata.proofs.write.put_write3res_2.Tie as tie

pub put_write3res_2_spec : {M : Type 1} → statement M
put_write3res_2_spec = tie.close (tie.spec (λ c. search (lays-none (fixed-writer nfsstat-fixed) (codec-writer write_resfail))) (search rules) (search rules) (search rules) (search rules) (search rules) (search rules) (search rules) (search rules) (search rules) (λ c. search (lays-both (fixed-writer nfsstat-fixed) (codec-writer write_resfail), lays-of, lays-codec)))
