-- made by tools/generate from crates/nfsdata/rfc/read.x
use borrow.Author.Rules.{rules}
use Rattle.xdr.specs.Laws.Fields.{lays-none, fixed-writer, codec-writer, lays-both, lays-of, lays-codec}
use Rattle.nfsattr.specs.Laws.Sizes.{nfsstat-fixed}
use Rattle.nfsdata.specs.Meaning.Read.{read_resfail}
use Rattle.nfsdata.proofs.read.put_read3res_2.Statement.{statement}
use Rattle.nfsdata.proofs.read.put_read3res_2.Tie as tie

pub put_read3res_2_spec : {M : Type 1} → statement M
put_read3res_2_spec = tie.close (tie.spec (λ c. search (lays-none (fixed-writer nfsstat-fixed) (codec-writer read_resfail))) (search rules) (search rules) (search rules) (search rules) (search rules) (search rules) (search rules) (search rules) (search rules) (λ c. search (lays-both (fixed-writer nfsstat-fixed) (codec-writer read_resfail), lays-of, lays-codec)))
