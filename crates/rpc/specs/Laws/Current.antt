-- What follows for the current reading: each law is that of every reading (Laws/Plans, Laws/ReplySizes, Laws/ReplyPuts), at this one.
-- Assumes nothing.
use Rattle.std.specs.Prelude.{◌≡◌, refl, List, ℕ, ◌≤◌, length}
use Rattle.xdr.specs.Meaning.Items.{word}
use Rattle.xdr.specs.Meaning.Format.{exactly}
use Rattle.xdr.specs.Meaning.Public.{laid}
use Rattle.xdr.specs.Laws.Keys.{Numbered, key-writes}
use Rattle.xdr.specs.Laws.Lengths.{Within}
use Rattle.xdr.specs.Laws.Putting.{Sized}
use Rattle.xdr.specs.Laws.Unions.{Union, arm_branches}
use Rattle.xdr.specs.Laws.Write.{Put}
use Rattle.rpc.specs.Meaning.Auth.{no_auth}
use Rattle.rpc.specs.Meaning.Reading.{mismatch-info, accept_arms}
use Rattle.rpc.specs.Meaning.Reply.{reject_arms, see_reject, reply_branches, hold_reply}
use Rattle.rpc.specs.Meaning.Message.{no_call, body_branches, hold_body}
use Rattle.rpc.specs.Meaning.Current.{accept_stat_number, accept_stats, auth_stat_number, auth_stats, see_accept, current, current_accept_stat, current_auth_stat, current_accept_body, current_accepted_reply, current_rejected_reply, current_reply_body, current_rpc_body, current_rpc_msg}
use Rattle.rpc.specs.Laws.Closed.{accept-stat-numbered, auth-stat-numbered}
use Rattle.rpc.specs.Laws.Lengths.{accept-stat-within, auth-stat-within, accept-body-within, accepted-reply-within, rejected-reply-within, reply-body-within, rpc-body-within, rpc-msg-within}
use Rattle.rpc.specs.Laws.Plans.{accept-union, reject-union, reply-union, body-union, shared-inner}
use Rattle.rpc.specs.Laws.Sizes.{shared-sizes}
use Rattle.rpc.specs.Laws.ReplySizes.{accept_tag, accept_size, accepted_size, reject_size, reply_size, body_size, msg_size, accept-sized, reject-sized, accepted-sized, reply-sized, body-sized, msg-sized, msg-found}
use Rattle.rpc.specs.Laws.Puts.{lent_from, back_at}
use Rattle.rpc.specs.Laws.ReplyPuts.{accept-info-put, reading-puts}
use Rattle.rpc.specs.declared.reply.mismatch_info.{mismatch_info}
use Rattle.rpc.specs.declared.current.reply.accept_body.{accept_body}
use Rattle.rpc.specs.declared.current.reply.accept_body.TheVariants.{SUCCESS, PROG_MISMATCH}
use Rattle.rpc.specs.declared.current.reply.reply_body.{reply_body}
use Rattle.rpc.specs.declared.current.reply.reply_body.TheVariants.{MSG_ACCEPTED}
use Rattle.rpc.specs.declared.current.message.rpc_body.{rpc_body}
use Rattle.rpc.specs.declared.current.message.rpc_body.TheVariants.{CALL}

-- what is taken where a tag is none of the declared ones
abbrev pub stray_reply : reply_body
stray_reply = MSG_ACCEPTED (record { verf = no_auth; reply_data = SUCCESS })

abbrev pub stray_body : rpc_body
stray_body = CALL no_call

-- how each kind is read
pub current-stat-numbered : Numbered current_accept_stat accept_stat_number accept_stats
current-stat-numbered = accept-stat-numbered current

pub current-auth-numbered : Numbered current_auth_stat auth_stat_number auth_stats
current-auth-numbered = auth-stat-numbered current

pub current-accept-union : Union (exactly current_accept_body) (arm_branches accept_arms) see_accept 6
current-accept-union = accept-union current

pub current-reject-union : Union (exactly current_rejected_reply) (arm_branches (reject_arms current)) (see_reject current) 2
current-reject-union = reject-union current

pub current-reply-union : Union current_reply_body (reply_branches current) (hold_reply current) 2
current-reply-union = reply-union current

pub current-body-union : Union current_rpc_body (body_branches current) (hold_body current) 2
current-body-union = body-union current

pub ruleset inner =
    (shared-inner, current-stat-numbered, current-auth-numbered, current-accept-union, current-reject-union, current-reply-union, current-body-union)

-- how each is written
pub ruleset numbered = (key-writes, current-stat-numbered, current-auth-numbered)

pub current-accept-sized : Sized (exactly current_accept_body) (accept_size current)
current-accept-sized = accept-sized current

pub current-reject-sized : Sized (exactly current_rejected_reply) (reject_size current)
current-reject-sized = reject-sized current

pub current-accepted-sized : Sized current_accepted_reply (accepted_size current)
current-accepted-sized = accepted-sized current

pub current-reply-sized : Sized current_reply_body (reply_size current)
current-reply-sized = reply-sized current

pub current-body-sized : Sized current_rpc_body (body_size current)
current-body-sized = body-sized current

pub current-msg-sized : Sized current_rpc_msg (msg_size current)
current-msg-sized = msg-sized current

pub ruleset sizes =
    (shared-sizes, msg-found, current-accept-sized, current-reject-sized, current-accepted-sized, current-reply-sized, current-body-sized, current-msg-sized)

pub current-mismatch-put : (xs ys zs : List ℕ) (m : accept_body) (v : mismatch_info) (t : ℕ) → m ≡ PROG_MISMATCH v → t ≡ accept_tag current m
    → accept_size current m ≤ length xs → ys ≡ laid (word.kind.write t) xs → Put (lent_from 4 ys) zs 8 (mismatch-info.kind.write v)
    → Put xs (back_at 4 ys zs) (accept_size current m) (current_accept_body.kind.write m)
current-mismatch-put = accept-info-put current PROG_MISMATCH (λ v. refl)

pub ruleset puts = (reading-puts, current-mismatch-put)

-- a rewriting is never longer than the larger of these and the bytes read
pub current-accept-stat-within : Within 0 current_accept_stat.kind
current-accept-stat-within = accept-stat-within current

pub current-auth-stat-within : Within 0 current_auth_stat.kind
current-auth-stat-within = auth-stat-within current

pub current-accept-body-within : Within 0 current_accept_body.kind
current-accept-body-within = accept-body-within current

pub current-accepted-reply-within : Within 0 current_accepted_reply.codec.kind
current-accepted-reply-within = accepted-reply-within current

pub current-rejected-reply-within : Within 12 current_rejected_reply.kind
current-rejected-reply-within = rejected-reply-within current

pub current-reply-body-within : Within 16 current_reply_body.codec.kind
current-reply-body-within = reply-body-within current

pub current-rpc-body-within : Within 36 current_rpc_body.codec.kind
current-rpc-body-within = rpc-body-within current

pub current-rpc-msg-within : Within 40 current_rpc_msg.codec.kind
current-rpc-msg-within = rpc-msg-within current
