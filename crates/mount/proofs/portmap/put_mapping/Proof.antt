-- made by tools/generate from crates/mount/rfc/portmap.x
use borrow.Author.Rules.{rules}
use Rattle.xdr.specs.Laws.Lays.{lays, size_is}
use Rattle.xdr.specs.Laws.Fields.{lays-plain}
use Rattle.mount.specs.Laws.Portmap.{port-mapping-fixed, port-mapping-lays}
use Rattle.mount.proofs.portmap.put_mapping.Statement.{statement}
use Rattle.mount.proofs.portmap.put_mapping.Tie as tie

pub put_mapping_spec : {M : Type 1} → statement M
put_mapping_spec = tie.close (tie.spec (λ c. search (lays, size_is port-mapping-fixed)) (search rules) (search rules) (λ c. search (rules, lays-plain, port-mapping-lays, size_is port-mapping-fixed)))
