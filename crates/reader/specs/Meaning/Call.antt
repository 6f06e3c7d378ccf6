-- A call read whole: an rpc_msg, and behind it the arguments of MKDIR (RFC 1813, section 3.3.9).
-- Assumes nothing.
use Rattle.xdr.specs.Meaning.Answer.{Answer, took, refused}
use Rattle.xdr.specs.Meaning.Format.{Format, exactly, ◌⨟◌}
use Rattle.rpc.specs.Meaning.Messages.{RpcMsg}
use Rattle.rpc.specs.declared.reply.accept_body.{accept_body}
use Rattle.rpc.specs.declared.reply.rejected_reply.{rejected_reply}
use Rattle.rpc.specs.Meaning.Crate.{rpc-msg}
use Rattle.rpc.specs.declared.message.rpc_msg.{rpc_msg}
use Rattle.nfs.specs.Meaning.Dir.{Diropargs, diropargs}
use Rattle.nfs.specs.Meaning.Set.{sattr}
use Rattle.nfs.specs.declared.dir.diropargs3.{diropargs3}
use Rattle.nfs.specs.declared.set.sattr3.{sattr3}
use Rattle.std.specs.Prelude.{Result, Ok, Err}
use Rattle.xdr.specs.declared.refusal.Refusal.{Refusal}
use Rattle.xdr.specs.declared.answer.Took.{Took}
use Rattle.reader.specs.declared.call.Mkdir.{Mkdir}

unfoldable pub mkdir : Format (RpcMsg accept_body rejected_reply × (Diropargs × sattr3)) (rpc_msg × (diropargs3 × sattr3))
mkdir = rpc-msg ⨟ diropargs ⨟ exactly sattr

abbrev pub view_mkdir : Result (Took Mkdir) Refusal → Answer (rpc_msg × (diropargs3 × sattr3))
view_mkdir (Ok x) = took (x.value.message, (x.value.dirops, x.value.attributes)) x.next x.plain
view_mkdir (Err r) = refused r
