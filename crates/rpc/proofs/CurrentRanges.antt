-- Ranges of the kinds of the current reading, as in `Ranges`.
-- Assumes nothing.
use mathlib.Core.List.{List}
use Prim.Native.Nat.{ℕ, ◌≤◌}
use native.Mathlib.Omega.{arith}
use lib.ListN.{length}
use mir.Val.{Val}
use denote.Laws.{Is}
use Rattle.xdr.specs.Meaning.Bytes.{Bytes}
use Rattle.xdr.specs.Meaning.Answer.{most}
use Rattle.xdr.specs.Meaning.Items.{number, word}
use Rattle.xdr.specs.Laws.Putting.{putting}
use Rattle.rpc.specs.Meaning.Reply.{auth_stat_of, accept_body_of, accepted_reply_of, rejected_reply_of, reply_body_of}
use Rattle.rpc.specs.Meaning.Message.{rpc_body_of, rpc_msg_of}
use Rattle.rpc.specs.Meaning.Current.{current_auth_stat, current_accept_body, current_accepted_reply, current_rejected_reply, current_reply_body, current_rpc_body, current_rpc_msg}
use Rattle.rpc.specs.Laws.Current.{sizes}
use Rattle.rpc.specs.declared.current.reply.auth_stat.{auth_stat}
use Rattle.rpc.specs.declared.current.reply.auth_stat.TheVariants as authStat
use Rattle.rpc.specs.declared.current.reply.accept_body.{accept_body}
use Rattle.rpc.specs.declared.current.reply.accept_body.TheVariants.{SUCCESS, PROG_UNAVAIL, PROG_MISMATCH, PROC_UNAVAIL, GARBAGE_ARGS, SYSTEM_ERR}
use Rattle.rpc.specs.declared.current.reply.accepted_reply.{accepted_reply}
use Rattle.rpc.specs.declared.current.reply.rejected_reply.{rejected_reply}
use Rattle.rpc.specs.declared.current.reply.rejected_reply.TheVariants.{RPC_MISMATCH, AUTH_ERROR}
use Rattle.rpc.specs.declared.current.reply.reply_body.{reply_body}
use Rattle.rpc.specs.declared.current.reply.reply_body.TheVariants.{MSG_ACCEPTED, MSG_DENIED}
use Rattle.rpc.specs.declared.current.message.rpc_body.{rpc_body}
use Rattle.rpc.specs.declared.current.message.rpc_body.TheVariants.{CALL, REPLY}
use Rattle.rpc.specs.declared.current.message.rpc_msg.{rpc_msg}
use Rattle.rpc.proofs.Ranges.{info-good, auth-good, call-good}
use Rattle.rpc.specs.contracts.current.reply.accept_body as AcceptBody
use Rattle.rpc.specs.contracts.current.reply.accepted_reply as AcceptedReply
use Rattle.rpc.specs.contracts.current.reply.rejected_reply as RejectedReply
use Rattle.rpc.specs.contracts.current.reply.reply_body as ReplyBody
use Rattle.rpc.specs.contracts.current.message.rpc_body as RpcBody
use Rattle.rpc.specs.contracts.current.message.rpc_msg as RpcMsg

auth-stat-good : (a : auth_stat) → current_auth_stat.kind.Good a
unfolding auth_stat_of word number
auth-stat-good authStat.AUTH_OK = omega arith
auth-stat-good authStat.AUTH_BADCRED = omega arith
auth-stat-good authStat.AUTH_REJECTEDCRED = omega arith
auth-stat-good authStat.AUTH_BADVERF = omega arith
auth-stat-good authStat.AUTH_REJECTEDVERF = omega arith
auth-stat-good authStat.AUTH_TOOWEAK = omega arith
auth-stat-good authStat.AUTH_INVALIDRESP = omega arith
auth-stat-good authStat.AUTH_FAILED = omega arith
auth-stat-good authStat.AUTH_KERB_GENERIC = omega arith
auth-stat-good authStat.AUTH_TIMEEXPIRE = omega arith
auth-stat-good authStat.AUTH_TKT_FILE = omega arith
auth-stat-good authStat.AUTH_DECODE = omega arith
auth-stat-good authStat.AUTH_NET_ADDR = omega arith
auth-stat-good authStat.RPCSEC_GSS_CREDPROBLEM = omega arith
auth-stat-good authStat.RPCSEC_GSS_CTXPROBLEM = omega arith

pub accept-good : (m : accept_body) {vs : List Val} → Is AcceptBody.the_row m vs → current_accept_body.kind.Good m
unfolding accept_body_of word number
accept-good SUCCESS p = (omega arith, tt)
accept-good PROG_UNAVAIL p = (omega arith, tt)
accept-good (PROG_MISMATCH v) p = (omega arith, info-good v p.1.1.1.1.0)
accept-good PROC_UNAVAIL p = (omega arith, tt)
accept-good GARBAGE_ARGS p = (omega arith, tt)
accept-good SYSTEM_ERR p = (omega arith, tt)

pub reject-good : (m : rejected_reply) {vs : List Val} → Is RejectedReply.the_row m vs → current_rejected_reply.kind.Good m
unfolding rejected_reply_of word number
reject-good (RPC_MISMATCH v) p = (omega arith, info-good v p.1.1.1.1.0)
reject-good (AUTH_ERROR a) p = (omega arith, auth-stat-good a)

module _ (s : List ℕ) (h : Bytes s) (k : length s ≤ most) where
  pub accepted-good : (m : accepted_reply) {vs : List Val} → Is AcceptedReply.the_row m vs
      → current_accepted_reply.codec.kind.Good (current_accepted_reply.held.mean s m)
  unfolding accepted_reply_of
  accepted-good m p = (auth-good s h k m.verf, accept-good m.reply_data p.1.1.1.0)

  pub reply-good : (m : reply_body) {vs : List Val} → Is ReplyBody.the_row m vs
      → current_reply_body.codec.kind.Good (current_reply_body.held.mean s m)
  unfolding reply_body_of word number
  reply-good (MSG_ACCEPTED a) p = (omega arith, accepted-good a p.1.1.1.1.0)
  reply-good (MSG_DENIED r) p = (omega arith, reject-good r p.1.1.1.1.0)

  pub body-good : (m : rpc_body) {vs : List Val} → Is RpcBody.the_row m vs → current_rpc_body.codec.kind.Good (current_rpc_body.held.mean s m)
  unfolding rpc_body_of word number
  body-good (CALL c) p = (omega arith, call-good s h k c p.1.1.1.1.0)
  body-good (REPLY r) p = (omega arith, reply-good r p.1.1.1.1.0)

  pub msg-good : (m : rpc_msg) {vs : List Val} → Is RpcMsg.the_row m vs → current_rpc_msg.codec.kind.Good (current_rpc_msg.held.mean s m)
  unfolding rpc_msg_of word number
  msg-good m p = (p.1.1.0.1, body-good m.body p.1.1.1.0)

-- what a writer's proof cites
pub ruleset writes = (putting, sizes, accept-good, reject-good, accepted-good, reply-good, body-good, msg-good)
