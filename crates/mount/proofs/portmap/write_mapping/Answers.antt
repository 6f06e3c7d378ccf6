-- made by tools/generate from crates/mount/rfc/portmap.x
use Rattle.std.proofs.Common.{rules}
use Rattle.xdr.specs.Laws.Lays.{rooms, fixed_on}
use Rattle.xdr.specs.Laws.Answers.{tries, exit}
use Rattle.xdr.proofs.Refused.{fixed_off}
use Rattle.mount.proofs.PortmapRanges.{port-mapping-good}
use Rattle.mount.specs.Laws.Portmap.{port-mapping-fixed}
use Rattle.mount.proofs.portmap.write_mapping.Goals as goal

pub returns-in_err-end : goal.returns-in_err-end
returns-in_err-end c = search (fixed_off port-mapping-fixed, rules, tries, exit c.from_residual.ensures.1)

pub slice_bounds-put_mapping-count : goal.slice_bounds-put_mapping-count
slice_bounds-put_mapping-count c = search (rooms, c.in_ok-end.was)

pub slice_bounds-put_mapping-start : goal.slice_bounds-put_mapping-start
slice_bounds-put_mapping-start c = search (rooms, c.in_ok-end.was)

pub returns : goal.returns
returns c = search (fixed_on port-mapping-fixed, rules, port-mapping-good, tries)
