-- made by tools/generate from crates/mount/rfc/mnt.x
use Rattle.xdr.specs.Laws.Plans.{planned, asks}
use Rattle.xdr.specs.Laws.Answers.{exits}
use Rattle.mount.specs.Laws.Mnt.{mountres-ok-plan}
use Rattle.mount.specs.Meaning.Mnt.{mountres_ok}
use Rattle.mount.proofs.mnt.mountres3_ok_at.Goals as goal

pub returns-in_err-fhandle : goal.returns-in_err-fhandle
unfolding mountres_ok
returns-in_err-fhandle c = exits _ c.from_residual.ensures.1 (search (planned mountres-ok-plan, asks, c.in_err-fhandle.ensures) depth 20)

pub returns-in_err-auth_flavors : goal.returns-in_err-auth_flavors
unfolding mountres_ok
returns-in_err-auth_flavors c = exits _ c.from_residual-in_err-auth_flavors.ensures.1 (search (planned mountres-ok-plan, asks, c.in_ok-fhandle.ensures, c.in_err-auth_flavors.ensures) depth 20)

pub returns : goal.returns
unfolding mountres_ok
returns c = search (planned mountres-ok-plan, asks, c.in_ok-fhandle.ensures, c.in_ok-auth_flavors.ensures) depth 20
