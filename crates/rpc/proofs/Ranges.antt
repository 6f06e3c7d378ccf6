-- Ranges: a value of a declared type, read in a source of bytes that is not too long, means a message in range.
-- `Is the_row m vs` is what owning a parameter m of the type tells: of a struct `p.1.1` is the fields' own facts, a tuple in their order;
-- of an enum at a constructor `p.1.1.1.1` is those of its fields. A number's `.1` is its range.
-- Assumes nothing.
use mathlib.Core.Path.{◌≡◌}
use mathlib.Core.Bool.{true}
use mathlib.Core.List.{List}
use Prim.Native.Nat.{ℕ, ◌≤◌, ◌<◌}
use native.Mathlib.Omega.{arith}
use lib.ListN.{length}
use mir.Val.{Val}
use denote.Laws.{Is}
use Rattle.xdr.specs.Meaning.Bytes.{Bytes}
use Rattle.xdr.specs.Meaning.Answer.{most}
use Rattle.xdr.specs.Meaning.Items.{number, word}
use Rattle.xdr.specs.Meaning.Formats.{piece_held, words_held}
use Rattle.xdr.specs.Meaning.Pieces.{is_inside, are_inside}
use Rattle.xdr.specs.Laws.Marks.{and_right}
use Rattle.xdr.specs.Laws.Pieces.{piece-good}
use Rattle.xdr.specs.Laws.Words.{words-good}
use Rattle.rpc.specs.Meaning.Closed.{auth-flavor}
use Rattle.rpc.specs.Meaning.Crate.{auth-stat, accept-body, accepted-reply, rejected-reply, reply-body, rpc-body, rpc-msg}
use Rattle.rpc.specs.Meaning.Auth.{opaque-auth, auth-unix}
use Rattle.rpc.specs.Meaning.Reading.{mismatch-info}
use Rattle.rpc.specs.Meaning.Message.{call-body}
use Rattle.xdr.specs.Laws.Putting.{putting, place_at, place-room}
use Rattle.rpc.specs.Meaning.Sources.{unix_from, message_from}
use Rattle.rpc.specs.Laws.ReplySizes.{sizes}
use Rattle.rpc.specs.Laws.Sources.{UnixReady, CallReady, writes-from}
use Rattle.rpc.specs.Meaning.Reply.{auth_stat_of, accept_body_of, accepted_reply_of, rejected_reply_of, reply_body_of}
use Rattle.rpc.specs.Meaning.Message.{rpc_body_of, rpc_msg_of}
use Rattle.rpc.specs.declared.auth.auth_flavor.{auth_flavor}
use Rattle.rpc.specs.declared.auth.auth_flavor.TheVariants as flavor
use Rattle.rpc.specs.declared.auth.auth_stat.{auth_stat}
use Rattle.rpc.specs.declared.auth.auth_stat.TheVariants as authStat
use Rattle.rpc.specs.declared.auth.opaque_auth.{opaque_auth}
use Rattle.rpc.specs.declared.auth.auth_unix.{auth_unix}
use Rattle.rpc.specs.declared.reply.mismatch_info.{mismatch_info}
use Rattle.rpc.specs.declared.reply.accept_body.{accept_body}
use Rattle.rpc.specs.declared.reply.accepted_reply.{accepted_reply}
use Rattle.rpc.specs.declared.reply.rejected_reply.{rejected_reply}
use Rattle.rpc.specs.declared.reply.reply_body.{reply_body}
use Rattle.rpc.specs.declared.message.call_body.{call_body}
use Rattle.rpc.specs.declared.message.rpc_body.{rpc_body}
use Rattle.rpc.specs.declared.message.rpc_msg.{rpc_msg}
use Rattle.rpc.specs.declared.reply.accept_body.TheVariants.{SUCCESS, PROG_UNAVAIL, PROG_MISMATCH, PROC_UNAVAIL, GARBAGE_ARGS}
use Rattle.rpc.specs.declared.reply.rejected_reply.TheVariants.{RPC_MISMATCH, AUTH_ERROR}
use Rattle.rpc.specs.declared.reply.reply_body.TheVariants.{MSG_ACCEPTED, MSG_DENIED}
use Rattle.rpc.specs.declared.message.rpc_body.TheVariants.{CALL, REPLY}
use Rattle.rpc.specs.contracts.auth.auth_unix as AuthUnix
use Rattle.rpc.specs.contracts.reply.mismatch_info as MismatchInfo
use Rattle.rpc.specs.contracts.reply.accept_body as AcceptBody
use Rattle.rpc.specs.contracts.reply.accepted_reply as AcceptedReply
use Rattle.rpc.specs.contracts.reply.rejected_reply as RejectedReply
use Rattle.rpc.specs.contracts.reply.reply_body as ReplyBody
use Rattle.rpc.specs.contracts.message.call_body as CallBody
use Rattle.rpc.specs.contracts.message.rpc_body as RpcBody
use Rattle.rpc.specs.contracts.message.rpc_msg as RpcMsg

-- with no number of the source in them
pub auth-flavor-good : (a : auth_flavor) → auth-flavor.kind.Good a
unfolding auth-flavor word number
auth-flavor-good flavor.AUTH_NULL = omega arith
auth-flavor-good flavor.AUTH_UNIX = omega arith
auth-flavor-good flavor.AUTH_SHORT = omega arith
auth-flavor-good flavor.AUTH_DES = omega arith

pub auth-stat-good : (a : auth_stat) → auth-stat.kind.Good a
unfolding auth_stat_of word number
auth-stat-good authStat.AUTH_BADCRED = omega arith
auth-stat-good authStat.AUTH_REJECTEDCRED = omega arith
auth-stat-good authStat.AUTH_BADVERF = omega arith
auth-stat-good authStat.AUTH_REJECTEDVERF = omega arith
auth-stat-good authStat.AUTH_TOOWEAK = omega arith

-- with no piece in them
pub info-good : (m : mismatch_info) {vs : List Val} → Is MismatchInfo.the_row m vs → mismatch-info.kind.Good m
unfolding mismatch-info word number
info-good m p = (p.1.1.0.1, p.1.1.1.0.1)

pub accept-good : (m : accept_body) {vs : List Val} → Is AcceptBody.the_row m vs → accept-body.kind.Good m
unfolding accept_body_of word number
accept-good SUCCESS p = (omega arith, tt)
accept-good PROG_UNAVAIL p = (omega arith, tt)
accept-good (PROG_MISMATCH v) p = (omega arith, info-good v p.1.1.1.1.0)
accept-good PROC_UNAVAIL p = (omega arith, tt)
accept-good GARBAGE_ARGS p = (omega arith, tt)

pub reject-good : (m : rejected_reply) {vs : List Val} → Is RejectedReply.the_row m vs → rejected-reply.kind.Good m
unfolding rejected_reply_of word number
reject-good (RPC_MISMATCH v) p = (omega arith, info-good v p.1.1.1.1.0)
reject-good (AUTH_ERROR a) p = (omega arith, auth-stat-good a)

module _ (s : List ℕ) (h : Bytes s) (k : length s ≤ most) where
  pub auth-good : (m : opaque_auth) → opaque-auth.codec.kind.Good (opaque-auth.held.mean s m)
  unfolding opaque-auth piece_held
  auth-good m = (auth-flavor-good m.flavor, piece-good s m.body h k)

  pub call-good : (m : call_body) {vs : List Val} → Is CallBody.the_row m vs → call-body.codec.kind.Good (call-body.held.mean s m)
  unfolding call-body word number
  call-good m p =
      let f = p.1.1 in
      (f.0.1, (f.1.0.1, (f.1.1.0.1, (f.1.1.1.0.1, (auth-good m.cred, auth-good m.verf)))))

  pub accepted-good : (m : accepted_reply) {vs : List Val} → Is AcceptedReply.the_row m vs
      → accepted-reply.codec.kind.Good (accepted-reply.held.mean s m)
  unfolding accepted_reply_of
  accepted-good m p = (auth-good m.verf, accept-good m.reply_data p.1.1.1.0)

  pub reply-good : (m : reply_body) {vs : List Val} → Is ReplyBody.the_row m vs → reply-body.codec.kind.Good (reply-body.held.mean s m)
  unfolding reply_body_of word number
  reply-good (MSG_ACCEPTED a) p = (omega arith, accepted-good a p.1.1.1.1.0)
  reply-good (MSG_DENIED r) p = (omega arith, reject-good r p.1.1.1.1.0)

  pub body-good : (m : rpc_body) {vs : List Val} → Is RpcBody.the_row m vs → rpc-body.codec.kind.Good (rpc-body.held.mean s m)
  unfolding rpc_body_of word number
  body-good (CALL c) p = (omega arith, call-good c p.1.1.1.1.0)
  body-good (REPLY r) p = (omega arith, reply-good r p.1.1.1.1.0)

  pub msg-good : (m : rpc_msg) {vs : List Val} → Is RpcMsg.the_row m vs → rpc-msg.codec.kind.Good (rpc-msg.held.mean s m)
  unfolding rpc_msg_of word number
  msg-good m p = (p.1.1.0.1, body-good m.body p.1.1.1.0)

  -- a list of words is in range where it lies inside
  pub unix-good : (m : auth_unix) {vs : List Val} → Is AuthUnix.the_row m vs → auth-unix.held.inside s m ≡ true
      → auth-unix.codec.kind.Good (auth-unix.held.mean s m)
  unfolding auth-unix piece_held words_held word number
  unix-good m p i =
      let f = p.1.1 in (
        f.0.1,
        (
          piece-good s m.machinename h k,
          (
            f.1.1.0.1,
            (
              f.1.1.1.0.1,
              words-good s m.gids h k (and_right (is_inside s m.machinename) (are_inside s m.gids) i),
            ),
          ),
        ),
      )

-- from two sources
pub unix-from-good : (s t : List ℕ) (m : auth_unix) {vs : List Val} → Is AuthUnix.the_row m vs → Bytes s → Bytes t → UnixReady s t m
    → auth-unix.codec.kind.Good (unix_from s t m)
unfolding auth-unix piece_held words_held word number
unix-from-good s t m p h g r =
    let f = p.1.1 in (
      f.0.1,
      (
        piece-good s m.machinename h r.name.short,
        (f.1.1.0.1, (f.1.1.1.0.1, words-good t m.gids g r.gids.short r.gids.inside)),
      ),
    )

pub message-from-good : (s t : List ℕ) (xid : ℕ) (m : call_body) {vs : List Val} → xid < 4294967296 → Is CallBody.the_row m vs → Bytes s → Bytes t
    → CallReady s t m → rpc-msg.codec.kind.Good (message_from s t xid m)
unfolding rpc_msg_of rpc_body_of call-body word number
message-from-good s t xid m x p h g r =
    let f = p.1.1 in (
      x,
      (
        omega arith,
        (
          f.0.1,
          (
            f.1.0.1,
            (f.1.1.0.1, (f.1.1.1.0.1, (auth-good s h r.cred.short m.cred, auth-good t g r.verf.short m.verf))),
          ),
        ),
      ),
    )

pub ruleset writes-two = (place_at, place-room, writes-from, unix-from-good, message-from-good)

-- what a writer's proof cites
pub ruleset writes = (putting, sizes, info-good, accept-good, reject-good, auth-good, unix-good, call-good, accepted-good, reply-good, body-good, msg-good)
