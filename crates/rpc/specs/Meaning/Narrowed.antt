-- How the crate's reading follows from the current one: all is the same but accept status 5, which the crate reads as GARBAGE_ARGS, and the
-- authentication numbers 0 and 6 to 14, which it refuses.
-- Assumes nothing.
use Rattle.std.specs.Prelude.{Bool, false, ℕ, ◌-◌}
use Rattle.xdr.specs.Meaning.Answer.{Answer, took, refused}
use Rattle.xdr.specs.declared.refusal.Refusal.TheVariants.{Undeclared}
use Rattle.rpc.specs.declared.reply.accept_stat as Crate·accept_stat
use Rattle.rpc.specs.declared.current.reply.accept_stat as Current·accept_stat
use Rattle.rpc.specs.declared.reply.accept_stat.TheVariants as crate·accept_stat
use Rattle.rpc.specs.declared.current.reply.accept_stat.TheVariants as current·accept_stat
use Rattle.rpc.specs.declared.auth.auth_stat as Crate·auth_stat
use Rattle.rpc.specs.declared.current.reply.auth_stat as Current·auth_stat
use Rattle.rpc.specs.declared.auth.auth_stat.TheVariants as crate·auth_stat
use Rattle.rpc.specs.declared.current.reply.auth_stat.TheVariants as current·auth_stat
use Rattle.rpc.specs.declared.reply.accept_body as Crate·accept_body
use Rattle.rpc.specs.declared.current.reply.accept_body as Current·accept_body
use Rattle.rpc.specs.declared.reply.accept_body.TheVariants as crate·accept_body
use Rattle.rpc.specs.declared.current.reply.accept_body.TheVariants as current·accept_body
use Rattle.rpc.specs.declared.reply.accepted_reply as Crate·accepted_reply
use Rattle.rpc.specs.declared.current.reply.accepted_reply as Current·accepted_reply
use Rattle.rpc.specs.declared.reply.rejected_reply as Crate·rejected_reply
use Rattle.rpc.specs.declared.current.reply.rejected_reply as Current·rejected_reply
use Rattle.rpc.specs.declared.reply.rejected_reply.TheVariants as crate·rejected_reply
use Rattle.rpc.specs.declared.current.reply.rejected_reply.TheVariants as current·rejected_reply
use Rattle.rpc.specs.declared.reply.reply_body as Crate·reply_body
use Rattle.rpc.specs.declared.current.reply.reply_body as Current·reply_body
use Rattle.rpc.specs.declared.reply.reply_body.TheVariants as crate·reply_body
use Rattle.rpc.specs.declared.current.reply.reply_body.TheVariants as current·reply_body
use Rattle.rpc.specs.declared.message.rpc_body as Crate·rpc_body
use Rattle.rpc.specs.declared.current.message.rpc_body as Current·rpc_body
use Rattle.rpc.specs.declared.message.rpc_body.TheVariants as crate·rpc_body
use Rattle.rpc.specs.declared.current.message.rpc_body.TheVariants as current·rpc_body
use Rattle.rpc.specs.declared.message.rpc_msg as Crate·rpc_msg
use Rattle.rpc.specs.declared.current.message.rpc_msg as Current·rpc_msg

-- what the crate has for a value of the current reading: the same; another, which is then not plain; or none
pub data Narrow (T : Type 0) : Type 0 where
  same : T → Narrow T
  other : T → Narrow T
  refused_there : Narrow T

abbrev pub map_narrow : {S T : Type 0} → (S → T) → Narrow S → Narrow T
map_narrow f (same x) = same (f x)
map_narrow f (other x) = other (f x)
map_narrow f refused_there = refused_there

-- a number that the crate does not have is the last word of what was read
abbrev pub narrow_by : {T : Type 0} → ℕ → Bool → Narrow T → Answer T
narrow_by n b (same x) = took x n b
narrow_by n b (other x) = took x n false
narrow_by n b refused_there = refused (Undeclared (n - 4))

abbrev pub narrowed : {S T : Type 0} → (S → Narrow T) → Answer S → Answer T
narrowed f (took x n b) = narrow_by n b (f x)
narrowed f (refused r) = refused r

abbrev pub narrow_stat : Current·accept_stat.accept_stat → Narrow Crate·accept_stat.accept_stat
narrow_stat current·accept_stat.SUCCESS = same crate·accept_stat.SUCCESS
narrow_stat current·accept_stat.PROG_UNAVAIL = same crate·accept_stat.PROG_UNAVAIL
narrow_stat current·accept_stat.PROG_MISMATCH = same crate·accept_stat.PROG_MISMATCH
narrow_stat current·accept_stat.PROC_UNAVAIL = same crate·accept_stat.PROC_UNAVAIL
narrow_stat current·accept_stat.GARBAGE_ARGS = same crate·accept_stat.GARBAGE_ARGS
narrow_stat current·accept_stat.SYSTEM_ERR = refused_there

abbrev pub narrow_auth : Current·auth_stat.auth_stat → Narrow Crate·auth_stat.auth_stat
narrow_auth current·auth_stat.AUTH_OK = refused_there
narrow_auth current·auth_stat.AUTH_BADCRED = same crate·auth_stat.AUTH_BADCRED
narrow_auth current·auth_stat.AUTH_REJECTEDCRED = same crate·auth_stat.AUTH_REJECTEDCRED
narrow_auth current·auth_stat.AUTH_BADVERF = same crate·auth_stat.AUTH_BADVERF
narrow_auth current·auth_stat.AUTH_REJECTEDVERF = same crate·auth_stat.AUTH_REJECTEDVERF
narrow_auth current·auth_stat.AUTH_TOOWEAK = same crate·auth_stat.AUTH_TOOWEAK
narrow_auth current·auth_stat.AUTH_INVALIDRESP = refused_there
narrow_auth current·auth_stat.AUTH_FAILED = refused_there
narrow_auth current·auth_stat.AUTH_KERB_GENERIC = refused_there
narrow_auth current·auth_stat.AUTH_TIMEEXPIRE = refused_there
narrow_auth current·auth_stat.AUTH_TKT_FILE = refused_there
narrow_auth current·auth_stat.AUTH_DECODE = refused_there
narrow_auth current·auth_stat.AUTH_NET_ADDR = refused_there
narrow_auth current·auth_stat.RPCSEC_GSS_CREDPROBLEM = refused_there
narrow_auth current·auth_stat.RPCSEC_GSS_CTXPROBLEM = refused_there

abbrev pub narrow_accept : Current·accept_body.accept_body → Narrow Crate·accept_body.accept_body
narrow_accept current·accept_body.SUCCESS = same crate·accept_body.SUCCESS
narrow_accept current·accept_body.PROG_UNAVAIL = same crate·accept_body.PROG_UNAVAIL
narrow_accept (current·accept_body.PROG_MISMATCH v) = same (crate·accept_body.PROG_MISMATCH v)
narrow_accept current·accept_body.PROC_UNAVAIL = same crate·accept_body.PROC_UNAVAIL
narrow_accept current·accept_body.GARBAGE_ARGS = same crate·accept_body.GARBAGE_ARGS
narrow_accept current·accept_body.SYSTEM_ERR = other crate·accept_body.GARBAGE_ARGS

abbrev pub narrow_accepted : Current·accepted_reply.accepted_reply → Narrow Crate·accepted_reply.accepted_reply
narrow_accepted m = map_narrow (λ b. record { verf = m.verf; reply_data = b }) (narrow_accept m.reply_data)

abbrev pub narrow_rejected : Current·rejected_reply.rejected_reply → Narrow Crate·rejected_reply.rejected_reply
narrow_rejected (current·rejected_reply.RPC_MISMATCH v) = same (crate·rejected_reply.RPC_MISMATCH v)
narrow_rejected (current·rejected_reply.AUTH_ERROR a) = map_narrow crate·rejected_reply.AUTH_ERROR (narrow_auth a)

abbrev pub narrow_reply : Current·reply_body.reply_body → Narrow Crate·reply_body.reply_body
narrow_reply (current·reply_body.MSG_ACCEPTED a) = map_narrow crate·reply_body.MSG_ACCEPTED (narrow_accepted a)
narrow_reply (current·reply_body.MSG_DENIED r) = map_narrow crate·reply_body.MSG_DENIED (narrow_rejected r)

abbrev pub narrow_body : Current·rpc_body.rpc_body → Narrow Crate·rpc_body.rpc_body
narrow_body (current·rpc_body.CALL c) = same (crate·rpc_body.CALL c)
narrow_body (current·rpc_body.REPLY r) = map_narrow crate·rpc_body.REPLY (narrow_reply r)

abbrev pub narrow_msg : Current·rpc_msg.rpc_msg → Narrow Crate·rpc_msg.rpc_msg
narrow_msg m = map_narrow (λ b. record { xid = m.xid; body = b }) (narrow_body m.body)
