-- made by tools/generate from crates/nfsfile/rfc/lookup.x
use borrow.Author.Rules.{rules}
use Rattle.xdr.specs.Laws.Fields.{lays-none, fixed-writer, codec-writer, lays-both, lays-of, lays-codec}
use Rattle.nfsattr.specs.Laws.Sizes.{nfsstat-fixed}
use Rattle.nfsfile.specs.Meaning.Lookup.{lookup_resfail}
use Rattle.nfsfile.proofs.lookup.put_lookup3res_2.Statement.{statement}
use Rattle.nfsfile.proofs.lookup.put_lookup3res_2.Tie as tie

pub put_lookup3res_2_spec : {M : Type 1} → statement M
put_lookup3res_2_spec = tie.close (tie.spec (λ c. search (lays-none (fixed-writer nfsstat-fixed) (codec-writer lookup_resfail))) (search rules) (search rules) (search rules) (search rules) (search rules) (search rules) (search rules) (search rules) (search rules) (λ c. search (lays-both (fixed-writer nfsstat-fixed) (codec-writer lookup_resfail), lays-of, lays-codec)))
