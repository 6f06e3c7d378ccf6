use Rattle.std.proofs.Common.{ap}
use Rattle.xdr.specs.Meaning.Views.{view_wrote}
use Rattle.rpcwire.specs.Laws.Choice.{reply-done, reply-none}
use Rattle.rpcwire.proofs.choice.reply.Goals as goal

pub returns-in_default : goal.returns-in_default
returns-in_default c = reply-none c.args.m c.requires c.args.out.now c.write_rpc_msg.ensures (ap view_wrote c.in_default.is)

pub returns : goal.returns
returns c = reply-done c.args.m c.requires c.args.out.now c.write_rpc_msg.ensures (ap view_wrote c.in-Ok.is)
