-- made by tools/generate from crates/mount/rfc/portmap.x
use Rattle.xdr.specs.Laws.Plans.{asks}
use Rattle.xdr.specs.Laws.Records.{by-plan}
use Rattle.xdr.specs.Laws.Answers.{exits}
use Rattle.mount.specs.Laws.Portmap.{port-mapping-plan}
use Rattle.mount.specs.Meaning.Portmap.{port_mapping}
use Rattle.mount.proofs.portmap.mapping_at.Goals as goal

pub returns-in_err-prog : goal.returns-in_err-prog
unfolding port_mapping
returns-in_err-prog c = exits _ c.from_residual.ensures.1 (search (by-plan port-mapping-plan, asks, c.in_err-prog.ensures) depth 20)

pub returns-in_err-vers : goal.returns-in_err-vers
unfolding port_mapping
returns-in_err-vers c = exits _ c.from_residual-in_err-vers.ensures.1 (search (by-plan port-mapping-plan, asks, c.in_ok-prog.ensures, c.in_err-vers.ensures) depth 20)

pub returns-in_err-prot : goal.returns-in_err-prot
unfolding port_mapping
returns-in_err-prot c = exits _ c.from_residual-in_err-prot.ensures.1 (search (by-plan port-mapping-plan, asks, c.in_ok-prog.ensures, c.in_ok-vers.ensures, c.in_err-prot.ensures) depth 20)

pub returns-in_err-port : goal.returns-in_err-port
unfolding port_mapping
returns-in_err-port c = exits _ c.from_residual-in_err-port.ensures.1 (search (by-plan port-mapping-plan, asks, c.in_ok-prog.ensures, c.in_ok-vers.ensures, c.in_ok-prot.ensures, c.in_err-port.ensures) depth 20)

pub returns : goal.returns
unfolding port_mapping
returns c = search (by-plan port-mapping-plan, asks, c.in_ok-prog.ensures, c.in_ok-vers.ensures, c.in_ok-prot.ensures, c.in_ok-port.ensures) depth 20
