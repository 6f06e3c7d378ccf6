-- made by tools/generate from crates/nfsfile/rfc/lookup.x
use borrow.Author.Rules.{rules}
use Rattle.xdr.specs.Laws.Fields.{lays-none, fixed-writer, lays-both, lays-of, lays-codec}
use Rattle.nfsattr.specs.Laws.Sizes.{nfsstat-fixed}
use Rattle.nfsfile.specs.Laws.Lookup.{lookup-resok-writer}
use Rattle.nfsfile.proofs.lookup.put_lookup3res_1.Statement.{statement}
use Rattle.nfsfile.proofs.lookup.put_lookup3res_1.Tie as tie

pub put_lookup3res_1_spec : {M : Type 1} → statement M
put_lookup3res_1_spec = tie.close (tie.spec (λ c. search (lays-none (fixed-writer nfsstat-fixed) lookup-resok-writer)) (search rules) (search rules) (search rules) (search rules) (search rules) (search rules) (search rules) (search rules) (search rules) (λ c. search (lays-both (fixed-writer nfsstat-fixed) lookup-resok-writer, lays-of, lays-codec)))
