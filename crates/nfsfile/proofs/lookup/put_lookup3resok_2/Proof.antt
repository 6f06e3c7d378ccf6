-- made by tools/generate from crates/nfsfile/rfc/lookup.x
use borrow.Author.Rules.{rules}
use Rattle.xdr.specs.Laws.Fields.{lays-none, codec-writer, lays-both, lays-of, lays-codec}
use Rattle.nfsattr.specs.Meaning.Attr.{post-op-attr}
use Rattle.nfsfile.proofs.lookup.put_lookup3resok_2.Statement.{statement}
use Rattle.nfsfile.proofs.lookup.put_lookup3resok_2.Tie as tie

pub put_lookup3resok_2_spec : {M : Type 1} → statement M
put_lookup3resok_2_spec = tie.close (tie.spec (search rules) (λ c. search (lays-none (codec-writer post-op-attr) (codec-writer post-op-attr))) (search rules) (search rules) (search rules) (search rules) (search rules) (search rules) (search rules) (search rules) (search rules) (λ c. search (lays-both (codec-writer post-op-attr) (codec-writer post-op-attr), lays-of, lays-codec)))
