use Rattle.xdr.specs.Laws.Answers.{exit}
use Rattle.reader.specs.Laws.Call.{mkdir-off-message, mkdir-off-dirops, mkdir-off-attributes, mkdir-on}
use Rattle.reader.proofs.call.read_mkdir.Goals as goal

pub returns-in_err-message : goal.returns-in_err-message
returns-in_err-message c = rw (exit c.from_residual.ensures.1) (mkdir-off-message _ c.rpc_msg-m.ensures c.in_err-message.was)

pub returns-in_err-dirops : goal.returns-in_err-dirops
returns-in_err-dirops c =
    rw (exit c.from_residual-in_err-dirops.ensures.1)
    (mkdir-off-dirops _ c.rpc_msg-m.ensures _ c.in_ok-message.was _ c.diropargs3-d.ensures c.in_err-dirops.was)

pub returns-in_err-attributes : goal.returns-in_err-attributes
returns-in_err-attributes c =
    rw (exit c.from_residual-in_err-attributes.ensures.1)
    (mkdir-off-attributes _ c.rpc_msg-m.ensures _ c.in_ok-message.was _ c.diropargs3-d.ensures _ c.in_ok-dirops.was _ c.sattr3-a.ensures c.in_err-attributes.was)

pub returns : goal.returns
returns c =
    mkdir-on _ c.rpc_msg-m.ensures _ c.in_ok-message.was _ c.diropargs3-d.ensures _ c.in_ok-dirops.was _ c.sattr3-a.ensures _ c.in_ok-attributes.was
