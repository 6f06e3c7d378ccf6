-- The crate's reading: its older lists, and its types. Answers of this reading equal those of nfsserve.
-- Assumes nothing.
use Rattle.std.specs.Prelude.{◌≡◌, refl, ◌⊎◌, List, [], ◌∷◌, ℕ, zero, suc, ◌≤◌, ◌<◌}
use Rattle.std.proofs.Common.{inl, inr, arith}
use Rattle.xdr.specs.Meaning.Answer.{stray_tag}
use Rattle.xdr.specs.Meaning.Kind.{Codec}
use Rattle.xdr.specs.Meaning.Combinators.{Seen, means, among}
use Rattle.xdr.specs.Meaning.Format.{Format}
use Rattle.rpc.specs.Meaning.Messages.{AcceptedReply, ReplyBody, RpcBody, RpcMsg}
use Rattle.rpc.specs.Meaning.Reading.{accept_arms, Reading}
use Rattle.rpc.specs.Meaning.Reply.{accept_stat_of, auth_stat_of, accept_body_of, accepted_reply_of, rejected_reply_of, reply_body_of}
use Rattle.rpc.specs.Meaning.Message.{rpc_body_of, rpc_msg_of}
use Rattle.rpc.specs.declared.auth.auth_stat.{auth_stat}
use Rattle.rpc.specs.declared.auth.auth_stat.TheVariants as authStat
use Rattle.rpc.specs.declared.reply.accept_stat.{accept_stat}
use Rattle.rpc.specs.declared.reply.accept_stat.TheVariants as acceptStat
use Rattle.rpc.specs.declared.reply.mismatch_info.{mismatch_info}
use Rattle.rpc.specs.declared.reply.accept_body.{accept_body}
use Rattle.rpc.specs.declared.reply.accept_body.TheVariants.{SUCCESS, PROG_UNAVAIL, PROG_MISMATCH, PROC_UNAVAIL, GARBAGE_ARGS}
use Rattle.rpc.specs.declared.reply.accepted_reply.{accepted_reply}
use Rattle.rpc.specs.declared.reply.rejected_reply.{rejected_reply}
use Rattle.rpc.specs.declared.reply.rejected_reply.TheVariants.{RPC_MISMATCH, AUTH_ERROR}
use Rattle.rpc.specs.declared.reply.reply_body.{reply_body}
use Rattle.rpc.specs.declared.reply.reply_body.TheVariants.{MSG_ACCEPTED, MSG_DENIED}
use Rattle.rpc.specs.declared.message.call_body.{call_body}
use Rattle.rpc.specs.declared.message.rpc_body.{rpc_body}
use Rattle.rpc.specs.declared.message.rpc_body.TheVariants.{CALL, REPLY}
use Rattle.rpc.specs.declared.message.rpc_msg.{rpc_msg}

-- accept_stat, the tag of accept_body: 0 to 4
abbrev pub accept_stat_number : accept_stat → ℕ
accept_stat_number acceptStat.SUCCESS = 0
accept_stat_number acceptStat.PROG_UNAVAIL = 1
accept_stat_number acceptStat.PROG_MISMATCH = 2
accept_stat_number acceptStat.PROC_UNAVAIL = 3
accept_stat_number acceptStat.GARBAGE_ARGS = 4

abbrev pub accept_stats : List accept_stat
accept_stats = acceptStat.SUCCESS ∷ acceptStat.PROG_UNAVAIL ∷ acceptStat.PROG_MISMATCH ∷ acceptStat.PROC_UNAVAIL ∷ acceptStat.GARBAGE_ARGS ∷ []

pub each_accept_stat : (a : accept_stat) → among accept_stat_number accept_stats (accept_stat_number a) ≡ means a []
each_accept_stat acceptStat.SUCCESS = refl
each_accept_stat acceptStat.PROG_UNAVAIL = refl
each_accept_stat acceptStat.PROG_MISMATCH = refl
each_accept_stat acceptStat.PROC_UNAVAIL = refl
each_accept_stat acceptStat.GARBAGE_ARGS = refl

-- auth_stat: 1 to 5
abbrev pub auth_stat_number : auth_stat → ℕ
auth_stat_number authStat.AUTH_BADCRED = 1
auth_stat_number authStat.AUTH_REJECTEDCRED = 2
auth_stat_number authStat.AUTH_BADVERF = 3
auth_stat_number authStat.AUTH_REJECTEDVERF = 4
auth_stat_number authStat.AUTH_TOOWEAK = 5

abbrev pub auth_stats : List auth_stat
auth_stats = authStat.AUTH_BADCRED ∷ authStat.AUTH_REJECTEDCRED ∷ authStat.AUTH_BADVERF ∷ authStat.AUTH_REJECTEDVERF ∷ authStat.AUTH_TOOWEAK ∷ []

pub each_auth_stat : (a : auth_stat) → among auth_stat_number auth_stats (auth_stat_number a) ≡ means a []
each_auth_stat authStat.AUTH_BADCRED = refl
each_auth_stat authStat.AUTH_REJECTEDCRED = refl
each_auth_stat authStat.AUTH_BADVERF = refl
each_auth_stat authStat.AUTH_REJECTEDVERF = refl
each_auth_stat authStat.AUTH_TOOWEAK = refl

-- accept_body by its status
abbrev pub see_accept : (tag : ℕ) → (accept_arms tag).Msg → Seen accept_body
see_accept zero u = means SUCCESS []
see_accept (suc zero) u = means PROG_UNAVAIL []
see_accept (suc (suc zero)) v = means (PROG_MISMATCH v) []
see_accept (suc (suc (suc zero))) u = means PROC_UNAVAIL []
see_accept (suc (suc (suc (suc zero)))) u = means GARBAGE_ARGS []
see_accept (suc (suc (suc (suc (suc n))))) u = means GARBAGE_ARGS (stray_tag ∷ [])

abbrev pub from_accept : accept_body → (tag : ℕ) × (accept_arms tag).Msg
from_accept SUCCESS = (0, tt)
from_accept PROG_UNAVAIL = (1, tt)
from_accept (PROG_MISMATCH v) = (2, v)
from_accept PROC_UNAVAIL = (3, tt)
from_accept GARBAGE_ARGS = (4, tt)

pub accept_declared : (tag : ℕ) → tag < 5 → (x : (accept_arms tag).Msg)
    → (m : accept_body) × (see_accept tag x ≡ means m []) × (from_accept m ≡ (tag, x))
accept_declared zero h u = (SUCCESS, refl, refl)
accept_declared (suc zero) h u = (PROG_UNAVAIL, refl, refl)
accept_declared (suc (suc zero)) h v = (PROG_MISMATCH v, refl, refl)
accept_declared (suc (suc (suc zero))) h u = (PROC_UNAVAIL, refl, refl)
accept_declared (suc (suc (suc (suc zero)))) h u = (GARBAGE_ARGS, refl, refl)
accept_declared (suc (suc (suc (suc (suc n))))) h u = absurd (omega arith)

pub accept_stray : (tag : ℕ) → 5 ≤ tag → (x : (accept_arms tag).Msg)
    → (m : accept_body) × (see_accept tag x ≡ means m (stray_tag ∷ [])) × (from_accept m ≡ (4, tt))
accept_stray zero h u = absurd (omega arith)
accept_stray (suc zero) h u = absurd (omega arith)
accept_stray (suc (suc zero)) h v = absurd (omega arith)
accept_stray (suc (suc (suc zero))) h u = absurd (omega arith)
accept_stray (suc (suc (suc (suc zero)))) h u = absurd (omega arith)
accept_stray (suc (suc (suc (suc (suc n))))) h u = (GARBAGE_ARGS, refl, refl)

pub accept_back : (m : accept_body) → see_accept (from_accept m).0 (from_accept m).1 ≡ means m []
accept_back SUCCESS = refl
accept_back PROG_UNAVAIL = refl
accept_back (PROG_MISMATCH v) = refl
accept_back PROC_UNAVAIL = refl
accept_back GARBAGE_ARGS = refl

-- the names of the code's types
abbrev pub rejected_to : mismatch_info ⊎ auth_stat → rejected_reply
rejected_to (inl v) = RPC_MISMATCH v
rejected_to (inr a) = AUTH_ERROR a

abbrev pub rejected_from : rejected_reply → mismatch_info ⊎ auth_stat
rejected_from (RPC_MISMATCH v) = inl v
rejected_from (AUTH_ERROR a) = inr a

pub rejected_from_to : (x : mismatch_info ⊎ auth_stat) → rejected_from (rejected_to x) ≡ x
rejected_from_to (inl v) = refl
rejected_from_to (inr a) = refl

pub rejected_to_from : (y : rejected_reply) → rejected_to (rejected_from y) ≡ y
rejected_to_from (RPC_MISMATCH v) = refl
rejected_to_from (AUTH_ERROR a) = refl

abbrev pub reply_to : accepted_reply ⊎ rejected_reply → reply_body
reply_to (inl a) = MSG_ACCEPTED a
reply_to (inr r) = MSG_DENIED r

abbrev pub reply_from : reply_body → accepted_reply ⊎ rejected_reply
reply_from (MSG_ACCEPTED a) = inl a
reply_from (MSG_DENIED r) = inr r

pub reply_from_to : (x : accepted_reply ⊎ rejected_reply) → reply_from (reply_to x) ≡ x
reply_from_to (inl a) = refl
reply_from_to (inr r) = refl

pub reply_to_from : (y : reply_body) → reply_to (reply_from y) ≡ y
reply_to_from (MSG_ACCEPTED a) = refl
reply_to_from (MSG_DENIED r) = refl

abbrev pub body_to : call_body ⊎ reply_body → rpc_body
body_to (inl c) = CALL c
body_to (inr r) = REPLY r

abbrev pub body_from : rpc_body → call_body ⊎ reply_body
body_from (CALL c) = inl c
body_from (REPLY r) = inr r

pub body_from_to : (x : call_body ⊎ reply_body) → body_from (body_to x) ≡ x
body_from_to (inl c) = refl
body_from_to (inr r) = refl

pub body_to_from : (y : rpc_body) → body_to (body_from y) ≡ y
body_to_from (CALL c) = refl
body_to_from (REPLY r) = refl

-- the crate names 0 and 0 in its version-mismatch reply, where RFC 5531 names the versions served
abbrev pub crate : Reading accept_stat auth_stat accept_body rejected_reply accepted_reply reply_body rpc_body rpc_msg
crate =
    record {
      stat_number = accept_stat_number;
      stats = accept_stats;
      each_stat = each_accept_stat;
      auth_number = auth_stat_number;
      auths = auth_stats;
      each_auth = each_auth_stat;
      count = 5;
      see = see_accept;
      from = from_accept;
      declared = accept_declared;
      stray = accept_stray;
      back = accept_back;
      success = SUCCESS;
      success_is = refl;
      rejected = record { to = rejected_to; from = rejected_from; from_to = rejected_from_to; to_from = rejected_to_from };
      accepted =
          record {
            to = λ x. record { verf = x.0; reply_data = x.1 };
            from = λ m. (m.verf, m.reply_data);
            from_to = λ x. refl;
            to_from = λ m. refl;
          };
      reply = record { to = reply_to; from = reply_from; from_to = reply_from_to; to_from = reply_to_from };
      body = record { to = body_to; from = body_from; from_to = body_from_to; to_from = body_to_from };
      msg = record { to = λ x. record { xid = x.0; body = x.1 }; from = λ m. (m.xid, m.body); from_to = λ x. refl; to_from = λ m. refl };
      serves = 0;
    }

-- the kinds of this reading
abbrev pub accept-stat : Codec accept_stat
accept-stat = accept_stat_of crate

abbrev pub auth-stat : Codec auth_stat
auth-stat = auth_stat_of crate

abbrev pub accept-body : Codec accept_body
accept-body = accept_body_of crate

abbrev pub accepted-reply : Format (AcceptedReply accept_body) accepted_reply
accepted-reply = accepted_reply_of crate

abbrev pub rejected-reply : Codec rejected_reply
rejected-reply = rejected_reply_of crate

abbrev pub reply-body : Format (ReplyBody accept_body rejected_reply) reply_body
reply-body = reply_body_of crate

abbrev pub rpc-body : Format (RpcBody accept_body rejected_reply) rpc_body
rpc-body = rpc_body_of crate

abbrev pub rpc-msg : Format (RpcMsg accept_body rejected_reply) rpc_msg
rpc-msg = rpc_msg_of crate
