-- made by tools/generate from crates/mount/rfc/portmap.x
use borrow.Author.Rules.{rules}
use Rattle.xdr.specs.Laws.Fixed.{word-fixed}
use Rattle.xdr.specs.Laws.Fields.{lays-none, fixed-writer, lays-both, lays-of, lays-codec}
use Rattle.mount.specs.Laws.Portmap.{port-mapping-2}
use Rattle.mount.proofs.portmap.put_mapping_1.Statement.{statement}
use Rattle.mount.proofs.portmap.put_mapping_1.Tie as tie

pub put_mapping_1_spec : {M : Type 1} → statement M
put_mapping_1_spec = tie.close (tie.spec (λ c. search (lays-none (fixed-writer word-fixed) port-mapping-2)) (search rules) (search rules) (search rules) (search rules) (search rules) (search rules) (search rules) (search rules) (search rules) (λ c. search (lays-both (fixed-writer word-fixed) port-mapping-2, lays-of, lays-codec)))
