-- What is taken where a tag is none of the declared ones.
-- Assumes nothing.
use Rattle.rpc.specs.Meaning.Auth.{no_auth}
use Rattle.rpc.specs.Meaning.Message.{no_call}
use Rattle.rpc.specs.declared.reply.accept_body.TheVariants.{SUCCESS}
use Rattle.rpc.specs.declared.reply.reply_body.{reply_body}
use Rattle.rpc.specs.declared.reply.reply_body.TheVariants.{MSG_ACCEPTED}
use Rattle.rpc.specs.declared.message.rpc_body.{rpc_body}
use Rattle.rpc.specs.declared.message.rpc_body.TheVariants.{CALL}

abbrev pub stray_reply : reply_body
stray_reply = MSG_ACCEPTED (record { verf = no_auth; reply_data = SUCCESS })

abbrev pub stray_body : rpc_body
stray_body = CALL no_call
