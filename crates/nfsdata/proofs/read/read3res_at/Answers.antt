-- made by tools/generate from crates/nfsdata/rfc/read.x
use Rattle.xdr.specs.Laws.Plans.{asks}
use Rattle.xdr.specs.Laws.Status.{status-lost, status-took}
use Rattle.xdr.specs.Laws.Answers.{tries, exit, exits}
use Rattle.nfsdata.specs.Laws.Read.{read-res-status}
use Rattle.nfsdata.proofs.read.read3res_at.Goals as goal

pub returns-in_err-status : goal.returns-in_err-status
returns-in_err-status c = search (status-lost read-res-status, tries, exit c.from_residual.ensures.1)

pub returns-in_err-v-in-NFS3_OK : goal.returns-in_err-v-in-NFS3_OK
returns-in_err-v-in-NFS3_OK c = exits _ c.from_residual-in_err-v-in-NFS3_OK.ensures.1 (search (status-took read-res-status, asks, c.in_err-v-in-NFS3_OK.ensures) depth 20)

pub returns-in_ok-v-in-NFS3_OK : goal.returns-in_ok-v-in-NFS3_OK
returns-in_ok-v-in-NFS3_OK c = search (status-took read-res-status, asks, c.in_ok-v-in-NFS3_OK.ensures) depth 20

pub returns-in_err-v-in-Failed : goal.returns-in_err-v-in-Failed
returns-in_err-v-in-Failed c = exits _ c.from_residual-in_err-v-in-Failed.ensures.1 (search (status-took read-res-status, asks, c.in_err-v-in-Failed.ensures) depth 20)

pub returns-in_ok-v-in-Failed : goal.returns-in_ok-v-in-Failed
returns-in_ok-v-in-Failed c = search (status-took read-res-status, asks, c.in_ok-v-in-Failed.ensures) depth 20
