-- made by tools/generate from crates/nfsfile/rfc/lookup.x
use borrow.Author.Rules.{rules}
use Rattle.xdr.specs.Laws.Write.{of-long}
use Rattle.xdr.specs.Laws.Writers.{put-outside, put-short}
use Rattle.xdr.specs.Laws.Fields.{lays_all}
use Rattle.nfsfile.specs.Laws.Lookup.{lookup-resok-writer, lookup-resok-lays}
use Rattle.nfsfile.proofs.lookup.put_lookup3resok.Statement.{statement}
use Rattle.nfsfile.proofs.lookup.put_lookup3resok.Tie as tie

pub put_lookup3resok_spec : {M : Type 1} → statement M
put_lookup3resok_spec = tie.close (tie.spec (λ c. search of-long) (search rules) (λ c. search (put-outside lookup-resok-writer)) (search rules) (λ c. search (put-short lookup-resok-writer)) (search rules) (search rules) (λ c. search (lays_all lookup-resok-writer, lookup-resok-lays)))
