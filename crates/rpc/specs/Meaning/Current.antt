-- The current reading: RFC 5531's own lists (section 9), and the types that the code has for them.
-- Assumes nothing.
use Rattle.std.specs.Prelude.{◌≡◌, refl, ◌⊎◌, List, [], ◌∷◌, ℕ, zero, suc, ◌≤◌, ◌<◌}
use Rattle.std.proofs.Common.{inl, inr, arith}
use Rattle.xdr.specs.Meaning.Answer.{stray_tag}
use Rattle.xdr.specs.Meaning.Kind.{Codec}
use Rattle.xdr.specs.Meaning.Combinators.{Seen, means, among}
use Rattle.xdr.specs.Meaning.Format.{Format}
use Rattle.rpc.specs.Meaning.Messages.{AcceptedReply, ReplyBody, RpcBody, RpcMsg}
use Rattle.rpc.specs.Meaning.Reading.{accept_arms, Reading}
use Rattle.rpc.specs.Meaning.Reply.{accept_stat_of, auth_stat_of, accept_body_of, accepted_reply_of, rejected_reply_of, reply_body_of}
use Rattle.rpc.specs.Meaning.Message.{rpc_body_of, rpc_msg_of}
use Rattle.rpc.specs.declared.current.reply.auth_stat.{auth_stat}
use Rattle.rpc.specs.declared.current.reply.auth_stat.TheVariants as authStat
use Rattle.rpc.specs.declared.current.reply.accept_stat.{accept_stat}
use Rattle.rpc.specs.declared.current.reply.accept_stat.TheVariants as acceptStat
use Rattle.rpc.specs.declared.reply.mismatch_info.{mismatch_info}
use Rattle.rpc.specs.declared.current.reply.accept_body.{accept_body}
use Rattle.rpc.specs.declared.current.reply.accept_body.TheVariants.{SUCCESS, PROG_UNAVAIL, PROG_MISMATCH, PROC_UNAVAIL, GARBAGE_ARGS, SYSTEM_ERR}
use Rattle.rpc.specs.declared.current.reply.accepted_reply.{accepted_reply}
use Rattle.rpc.specs.declared.current.reply.rejected_reply.{rejected_reply}
use Rattle.rpc.specs.declared.current.reply.rejected_reply.TheVariants.{RPC_MISMATCH, AUTH_ERROR}
use Rattle.rpc.specs.declared.current.reply.reply_body.{reply_body}
use Rattle.rpc.specs.declared.current.reply.reply_body.TheVariants.{MSG_ACCEPTED, MSG_DENIED}
use Rattle.rpc.specs.declared.message.call_body.{call_body}
use Rattle.rpc.specs.declared.current.message.rpc_body.{rpc_body}
use Rattle.rpc.specs.declared.current.message.rpc_body.TheVariants.{CALL, REPLY}
use Rattle.rpc.specs.declared.current.message.rpc_msg.{rpc_msg}

-- accept_stat, the tag of accept_body: 0 to 5
abbrev pub accept_stat_number : accept_stat → ℕ
accept_stat_number acceptStat.SUCCESS = 0
accept_stat_number acceptStat.PROG_UNAVAIL = 1
accept_stat_number acceptStat.PROG_MISMATCH = 2
accept_stat_number acceptStat.PROC_UNAVAIL = 3
accept_stat_number acceptStat.GARBAGE_ARGS = 4
accept_stat_number acceptStat.SYSTEM_ERR = 5

abbrev pub accept_stats : List accept_stat
accept_stats = acceptStat.SUCCESS ∷ acceptStat.PROG_UNAVAIL ∷ acceptStat.PROG_MISMATCH ∷ acceptStat.PROC_UNAVAIL ∷ acceptStat.GARBAGE_ARGS ∷ acceptStat.SYSTEM_ERR ∷ []

pub each_accept_stat : (a : accept_stat) → among accept_stat_number accept_stats (accept_stat_number a) ≡ means a []
each_accept_stat acceptStat.SUCCESS = refl
each_accept_stat acceptStat.PROG_UNAVAIL = refl
each_accept_stat acceptStat.PROG_MISMATCH = refl
each_accept_stat acceptStat.PROC_UNAVAIL = refl
each_accept_stat acceptStat.GARBAGE_ARGS = refl
each_accept_stat acceptStat.SYSTEM_ERR = refl

-- auth_stat: 0 to 14
abbrev pub auth_stat_number : auth_stat → ℕ
auth_stat_number authStat.AUTH_OK = 0
auth_stat_number authStat.AUTH_BADCRED = 1
auth_stat_number authStat.AUTH_REJECTEDCRED = 2
auth_stat_number authStat.AUTH_BADVERF = 3
auth_stat_number authStat.AUTH_REJECTEDVERF = 4
auth_stat_number authStat.AUTH_TOOWEAK = 5
auth_stat_number authStat.AUTH_INVALIDRESP = 6
auth_stat_number authStat.AUTH_FAILED = 7
auth_stat_number authStat.AUTH_KERB_GENERIC = 8
auth_stat_number authStat.AUTH_TIMEEXPIRE = 9
auth_stat_number authStat.AUTH_TKT_FILE = 10
auth_stat_number authStat.AUTH_DECODE = 11
auth_stat_number authStat.AUTH_NET_ADDR = 12
auth_stat_number authStat.RPCSEC_GSS_CREDPROBLEM = 13
auth_stat_number authStat.RPCSEC_GSS_CTXPROBLEM = 14

abbrev pub auth_stats : List auth_stat
auth_stats = authStat.AUTH_OK ∷ authStat.AUTH_BADCRED ∷ authStat.AUTH_REJECTEDCRED ∷ authStat.AUTH_BADVERF ∷ authStat.AUTH_REJECTEDVERF ∷ authStat.AUTH_TOOWEAK ∷ authStat.AUTH_INVALIDRESP ∷ authStat.AUTH_FAILED ∷ authStat.AUTH_KERB_GENERIC ∷ authStat.AUTH_TIMEEXPIRE ∷ authStat.AUTH_TKT_FILE ∷ authStat.AUTH_DECODE ∷ authStat.AUTH_NET_ADDR ∷ authStat.RPCSEC_GSS_CREDPROBLEM ∷ authStat.RPCSEC_GSS_CTXPROBLEM ∷ []

pub each_auth_stat : (a : auth_stat) → among auth_stat_number auth_stats (auth_stat_number a) ≡ means a []
each_auth_stat authStat.AUTH_OK = refl
each_auth_stat authStat.AUTH_BADCRED = refl
each_auth_stat authStat.AUTH_REJECTEDCRED = refl
each_auth_stat authStat.AUTH_BADVERF = refl
each_auth_stat authStat.AUTH_REJECTEDVERF = refl
each_auth_stat authStat.AUTH_TOOWEAK = refl
each_auth_stat authStat.AUTH_INVALIDRESP = refl
each_auth_stat authStat.AUTH_FAILED = refl
each_auth_stat authStat.AUTH_KERB_GENERIC = refl
each_auth_stat authStat.AUTH_TIMEEXPIRE = refl
each_auth_stat authStat.AUTH_TKT_FILE = refl
each_auth_stat authStat.AUTH_DECODE = refl
each_auth_stat authStat.AUTH_NET_ADDR = refl
each_auth_stat authStat.RPCSEC_GSS_CREDPROBLEM = refl
each_auth_stat authStat.RPCSEC_GSS_CTXPROBLEM = refl

-- accept_body by its status
abbrev pub see_accept : (tag : ℕ) → (accept_arms tag).Msg → Seen accept_body
see_accept zero u = means SUCCESS []
see_accept (suc zero) u = means PROG_UNAVAIL []
see_accept (suc (suc zero)) v = means (PROG_MISMATCH v) []
see_accept (suc (suc (suc zero))) u = means PROC_UNAVAIL []
see_accept (suc (suc (suc (suc zero)))) u = means GARBAGE_ARGS []
see_accept (suc (suc (suc (suc (suc zero))))) u = means SYSTEM_ERR []
see_accept (suc (suc (suc (suc (suc (suc n)))))) u = means GARBAGE_ARGS (stray_tag ∷ [])

abbrev pub from_accept : accept_body → (tag : ℕ) × (accept_arms tag).Msg
from_accept SUCCESS = (0, tt)
from_accept PROG_UNAVAIL = (1, tt)
from_accept (PROG_MISMATCH v) = (2, v)
from_accept PROC_UNAVAIL = (3, tt)
from_accept GARBAGE_ARGS = (4, tt)
from_accept SYSTEM_ERR = (5, tt)

pub accept_declared : (tag : ℕ) → tag < 6 → (x : (accept_arms tag).Msg)
    → (m : accept_body) × (see_accept tag x ≡ means m []) × (from_accept m ≡ (tag, x))
accept_declared zero h u = (SUCCESS, refl, refl)
accept_declared (suc zero) h u = (PROG_UNAVAIL, refl, refl)
accept_declared (suc (suc zero)) h v = (PROG_MISMATCH v, refl, refl)
accept_declared (suc (suc (suc zero))) h u = (PROC_UNAVAIL, refl, refl)
accept_declared (suc (suc (suc (suc zero)))) h u = (GARBAGE_ARGS, refl, refl)
accept_declared (suc (suc (suc (suc (suc zero))))) h u = (SYSTEM_ERR, refl, refl)
accept_declared (suc (suc (suc (suc (suc (suc n)))))) h u = absurd (omega arith)

pub accept_stray : (tag : ℕ) → 6 ≤ tag → (x : (accept_arms tag).Msg)
    → (m : accept_body) × (see_accept tag x ≡ means m (stray_tag ∷ [])) × (from_accept m ≡ (4, tt))
accept_stray zero h u = absurd (omega arith)
accept_stray (suc zero) h u = absurd (omega arith)
accept_stray (suc (suc zero)) h v = absurd (omega arith)
accept_stray (suc (suc (suc zero))) h u = absurd (omega arith)
accept_stray (suc (suc (suc (suc zero)))) h u = absurd (omega arith)
accept_stray (suc (suc (suc (suc (suc zero))))) h u = absurd (omega arith)
accept_stray (suc (suc (suc (suc (suc (suc n)))))) h u = (GARBAGE_ARGS, refl, refl)

pub accept_back : (m : accept_body) → see_accept (from_accept m).0 (from_accept m).1 ≡ means m []
accept_back SUCCESS = refl
accept_back PROG_UNAVAIL = refl
accept_back (PROG_MISMATCH v) = refl
accept_back PROC_UNAVAIL = refl
accept_back GARBAGE_ARGS = refl
accept_back SYSTEM_ERR = refl

-- the names of the code's types
abbrev pub rejected_to : mismatch_info ⊎ auth_stat → rejected_reply
rejected_to (inl v) = RPC_MISMATCH v
rejected_to (inr a) = AUTH_ERROR a

abbrev pub rejected_from : rejected_reply → mismatch_info ⊎ auth_stat
rejected_from (RPC_MISMATCH v) = inl v
rejected_from (AUTH_ERROR a) = inr a

pub rejected_from_to : (x : mismatch_info ⊎ auth_stat) → rejected_from (rejected_to x) ≡ x
rejected_from_to (inl v) = refl
rejected_from_to (inr a) = refl

pub rejected_to_from : (y : rejected_reply) → rejected_to (rejected_from y) ≡ y
rejected_to_from (RPC_MISMATCH v) = refl
rejected_to_from (AUTH_ERROR a) = refl

abbrev pub reply_to : accepted_reply ⊎ rejected_reply → reply_body
reply_to (inl a) = MSG_ACCEPTED a
reply_to (inr r) = MSG_DENIED r

abbrev pub reply_from : reply_body → accepted_reply ⊎ rejected_reply
reply_from (MSG_ACCEPTED a) = inl a
reply_from (MSG_DENIED r) = inr r

pub reply_from_to : (x : accepted_reply ⊎ rejected_reply) → reply_from (reply_to x) ≡ x
reply_from_to (inl a) = refl
reply_from_to (inr r) = refl

pub reply_to_from : (y : reply_body) → reply_to (reply_from y) ≡ y
reply_to_from (MSG_ACCEPTED a) = refl
reply_to_from (MSG_DENIED r) = refl

abbrev pub body_to : call_body ⊎ reply_body → rpc_body
body_to (inl c) = CALL c
body_to (inr r) = REPLY r

abbrev pub body_from : rpc_body → call_body ⊎ reply_body
body_from (CALL c) = inl c
body_from (REPLY r) = inr r

pub body_from_to : (x : call_body ⊎ reply_body) → body_from (body_to x) ≡ x
body_from_to (inl c) = refl
body_from_to (inr r) = refl

pub body_to_from : (y : rpc_body) → body_to (body_from y) ≡ y
body_to_from (CALL c) = refl
body_to_from (REPLY r) = refl

-- version 2 of RPC is served
abbrev pub current : Reading accept_stat auth_stat accept_body rejected_reply accepted_reply reply_body rpc_body rpc_msg
current =
    record {
      stat_number = accept_stat_number;
      stats = accept_stats;
      each_stat = each_accept_stat;
      auth_number = auth_stat_number;
      auths = auth_stats;
      each_auth = each_auth_stat;
      count = 6;
      see = see_accept;
      from = from_accept;
      declared = accept_declared;
      stray = accept_stray;
      back = accept_back;
      success = SUCCESS;
      success_is = refl;
      rejected = record { to = rejected_to; from = rejected_from; from_to = rejected_from_to; to_from = rejected_to_from };
      accepted =
          record {
            to = λ x. record { verf = x.0; reply_data = x.1 };
            from = λ m. (m.verf, m.reply_data);
            from_to = λ x. refl;
            to_from = λ m. refl;
          };
      reply = record { to = reply_to; from = reply_from; from_to = reply_from_to; to_from = reply_to_from };
      body = record { to = body_to; from = body_from; from_to = body_from_to; to_from = body_to_from };
      msg = record { to = λ x. record { xid = x.0; body = x.1 }; from = λ m. (m.xid, m.body); from_to = λ x. refl; to_from = λ m. refl };
      serves = 2;
    }

-- the kinds of this reading
abbrev pub current_accept_stat : Codec accept_stat
current_accept_stat = accept_stat_of current

abbrev pub current_auth_stat : Codec auth_stat
current_auth_stat = auth_stat_of current

abbrev pub current_accept_body : Codec accept_body
current_accept_body = accept_body_of current

abbrev pub current_accepted_reply : Format (AcceptedReply accept_body) accepted_reply
current_accepted_reply = accepted_reply_of current

abbrev pub current_rejected_reply : Codec rejected_reply
current_rejected_reply = rejected_reply_of current

abbrev pub current_reply_body : Format (ReplyBody accept_body rejected_reply) reply_body
current_reply_body = reply_body_of current

abbrev pub current_rpc_body : Format (RpcBody accept_body rejected_reply) rpc_body
current_rpc_body = rpc_body_of current

abbrev pub current_rpc_msg : Format (RpcMsg accept_body rejected_reply) rpc_msg
current_rpc_msg = rpc_msg_of current
