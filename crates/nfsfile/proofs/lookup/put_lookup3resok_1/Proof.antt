-- made by tools/generate from crates/nfsfile/rfc/lookup.x
use borrow.Author.Rules.{rules}
use Rattle.xdr.specs.Laws.Fields.{lays-none, lays-both, lays-of, lays-codec}
use Rattle.nfs.specs.Laws.Dir.{nfs-fh-writer}
use Rattle.nfsfile.specs.Laws.Lookup.{lookup-resok-2}
use Rattle.nfsfile.proofs.lookup.put_lookup3resok_1.Statement.{statement}
use Rattle.nfsfile.proofs.lookup.put_lookup3resok_1.Tie as tie

pub put_lookup3resok_1_spec : {M : Type 1} → statement M
put_lookup3resok_1_spec = tie.close (tie.spec (search rules) (λ c. search (lays-none nfs-fh-writer lookup-resok-2)) (search rules) (search rules) (search rules) (search rules) (search rules) (search rules) (search rules) (search rules) (search rules) (λ c. search (lays-both nfs-fh-writer lookup-resok-2, lays-of, lays-codec)))
