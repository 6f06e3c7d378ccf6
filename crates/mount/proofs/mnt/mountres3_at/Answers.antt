-- made by tools/generate from crates/mount/rfc/mnt.x
use Rattle.xdr.specs.Laws.Plans.{asks}
use Rattle.xdr.specs.Laws.Records.{still}
use Rattle.xdr.specs.Laws.Status.{status-lost, status-took}
use Rattle.xdr.specs.Laws.Answers.{tries, exit, exits}
use Rattle.mount.specs.Laws.Mnt.{mountres-status}
use Rattle.mount.proofs.mnt.mountres3_at.Goals as goal

pub returns-in_err-status : goal.returns-in_err-status
returns-in_err-status c = search (status-lost mountres-status, tries, exit c.from_residual.ensures.1)

pub returns-in_err-v-in-MNT3_OK : goal.returns-in_err-v-in-MNT3_OK
returns-in_err-v-in-MNT3_OK c = exits _ c.from_residual-in_err-v-in-MNT3_OK.ensures.1 (search (status-took mountres-status, asks, c.in_err-v-in-MNT3_OK.ensures) depth 20)

pub returns-in_ok-v-in-MNT3_OK : goal.returns-in_ok-v-in-MNT3_OK
returns-in_ok-v-in-MNT3_OK c = search (status-took mountres-status, asks, c.in_ok-v-in-MNT3_OK.ensures) depth 20

pub returns-in-Failed : goal.returns-in-Failed
returns-in-Failed c = search (status-took mountres-status, asks, still) depth 20
