-- The crate's answer to any bytes is the current one, narrowed (Meaning/Narrowed): accept_body, and the messages that it stands in.
-- Assumes nothing.
use Rattle.xdr.specs.Meaning.Answer.{Answer, took, refused}
use Rattle.xdr.specs.Meaning.Items.{word}
use Rattle.rpc.specs.Meaning.Auth.{opaque-auth}
use Rattle.rpc.specs.Meaning.Reading.{accept_arms}
use Rattle.rpc.specs.Meaning.Crate as Crate
use Rattle.rpc.specs.Meaning.Current as Current
use Rattle.rpc.specs.declared.auth.opaque_auth.{opaque_auth}
use Rattle.rpc.specs.declared.reply.reply_body.TheVariants as crate·reply
use Rattle.rpc.specs.declared.current.reply.reply_body.TheVariants as current·reply
use Rattle.rpc.specs.declared.message.rpc_body.TheVariants as crate·body
use Rattle.rpc.specs.declared.current.message.rpc_body.TheVariants as current·body
use Rattle.std.specs.Prelude.{◌≡◌, refl, Bool, true, List, ℕ, zero, suc}
use Rattle.std.proofs.Common.{sym, ap, ◌∙◌}
use Rattle.xdr.specs.Laws.Plans.{ask, give, follow, run}
use Rattle.xdr.specs.Laws.Unions.{arm_branches}
use Rattle.rpc.specs.Meaning.Reading.{accept_arms}
use Rattle.rpc.specs.Meaning.Reply.{reply_branches, hold_reply}
use Rattle.rpc.specs.Meaning.Message.{call-body, body_branches, hold_body}
use Rattle.rpc.specs.Meaning.Narrowed.{narrowed, narrow_accept, narrow_accepted, narrow_rejected, narrow_reply, narrow_body, narrow_msg}
use Rattle.rpc.specs.Laws.Plans.{accepted-plan, msg-plan, accept-union, reply-union, body-union}
use Rattle.rpc.specs.Laws.Readings.{post, post-narrowed, after, union-narrowed, after_is, accept-arm, rejected-reply-narrowed, body-call-arm}

-- accept_body: only PROG_MISMATCH has something behind it, and that is the same
pub accept-body-narrowed : (s : List ℕ) (p : ℕ) → (Crate.accept-body).kind.read s p ≡ narrowed narrow_accept ((Current.current_accept_body).kind.read s p)
accept-body-narrowed =
    union-narrowed narrow_accept (arm_branches accept_arms) Crate.see_accept (arm_branches accept_arms) Current.see_accept 5 6 (accept-union Crate.crate)
    (accept-union Current.current) accept-arm

-- accepted_reply: the verifier is the same
accepted-by : (s : List ℕ) (a : Answer opaque_auth)
    → follow (λ v n d. run (ask (Crate.accept-body).kind.read (λ y. give ((Crate.crate).accepted.to (v, y)))) s n d) true a
    ≡ narrowed narrow_accepted (follow (λ v n d. run (ask (Current.current_accept_body).kind.read (λ y. give ((Current.current).accepted.to (v, y)))) s n d) true a)
accepted-by s (took v n b) =
    ap (post (λ y. (Crate.crate).accepted.to (v, y)) b) (accept-body-narrowed s n)
    ∙ post-narrowed narrow_accept narrow_accepted (λ y. (Current.current).accepted.to (v, y)) (λ y. (Crate.crate).accepted.to (v, y)) (λ x. refl) b
    ((Current.current_accept_body).kind.read s n)
accepted-by s (refused r) = refl

pub accepted-reply-narrowed : (s : List ℕ) (p : ℕ)
    → (Crate.accepted-reply).held.read s p ≡ narrowed narrow_accepted ((Current.current_accepted_reply).held.read s p)
accepted-reply-narrowed s p =
    sym (accepted-plan Crate.crate s p _ refl) ∙ accepted-by s (opaque-auth.held.read s p)
    ∙ ap (narrowed narrow_accepted) (accepted-plan Current.current s p _ refl)

-- reply_body
reply-arm : (s : List ℕ) (p n tag : ℕ) (b : Bool)
    → after (reply_branches Crate.crate) (hold_reply Crate.crate) p tag b ((reply_branches Crate.crate tag).format.held.read s n)
    ≡ narrowed narrow_reply (after (reply_branches Current.current) (hold_reply Current.current) p tag b ((reply_branches Current.current tag).format.held.read s n))
reply-arm s p n zero b =
    after_is (reply_branches Crate.crate) (hold_reply Crate.crate) p 0 crate·reply.MSG_ACCEPTED (λ x. refl) b ((Crate.accepted-reply).held.read s n)
    ∙ ap (post crate·reply.MSG_ACCEPTED b) (accepted-reply-narrowed s n)
    ∙ post-narrowed narrow_accepted narrow_reply current·reply.MSG_ACCEPTED crate·reply.MSG_ACCEPTED (λ x. refl) b
    ((Current.current_accepted_reply).held.read s n)
    ∙ ap (narrowed narrow_reply)
    (sym
    (after_is (reply_branches Current.current) (hold_reply Current.current) p 0 current·reply.MSG_ACCEPTED (λ x. refl) b
    ((Current.current_accepted_reply).held.read s n)))
reply-arm s p n (suc zero) b =
    after_is (reply_branches Crate.crate) (hold_reply Crate.crate) p 1 crate·reply.MSG_DENIED (λ x. refl) b ((Crate.rejected-reply).kind.read s n)
    ∙ ap (post crate·reply.MSG_DENIED b) (rejected-reply-narrowed s n)
    ∙ post-narrowed narrow_rejected narrow_reply current·reply.MSG_DENIED crate·reply.MSG_DENIED (λ x. refl) b
    ((Current.current_rejected_reply).kind.read s n)
    ∙ ap (narrowed narrow_reply)
    (sym
    (after_is (reply_branches Current.current) (hold_reply Current.current) p 1 current·reply.MSG_DENIED (λ x. refl) b
    ((Current.current_rejected_reply).kind.read s n)))
reply-arm s p n (suc (suc k)) b = refl

pub reply-body-narrowed : (s : List ℕ) (p : ℕ) → (Crate.reply-body).held.read s p ≡ narrowed narrow_reply ((Current.current_reply_body).held.read s p)
reply-body-narrowed =
    union-narrowed narrow_reply (reply_branches Crate.crate) (hold_reply Crate.crate) (reply_branches Current.current) (hold_reply Current.current) 2 2
    (reply-union Crate.crate) (reply-union Current.current) reply-arm

-- rpc_body: a call is the same
body-arm : (s : List ℕ) (p n tag : ℕ) (b : Bool)
    → after (body_branches Crate.crate) (hold_body Crate.crate) p tag b ((body_branches Crate.crate tag).format.held.read s n)
    ≡ narrowed narrow_body (after (body_branches Current.current) (hold_body Current.current) p tag b ((body_branches Current.current tag).format.held.read s n))
body-arm s p n zero b = body-call-arm p b (call-body.held.read s n)
body-arm s p n (suc zero) b =
    after_is (body_branches Crate.crate) (hold_body Crate.crate) p 1 crate·body.REPLY (λ x. refl) b ((Crate.reply-body).held.read s n)
    ∙ ap (post crate·body.REPLY b) (reply-body-narrowed s n)
    ∙ post-narrowed narrow_reply narrow_body current·body.REPLY crate·body.REPLY (λ x. refl) b ((Current.current_reply_body).held.read s n)
    ∙ ap (narrowed narrow_body)
    (sym
    (after_is (body_branches Current.current) (hold_body Current.current) p 1 current·body.REPLY (λ x. refl) b
    ((Current.current_reply_body).held.read s n)))
body-arm s p n (suc (suc k)) b = refl

pub rpc-body-narrowed : (s : List ℕ) (p : ℕ) → (Crate.rpc-body).held.read s p ≡ narrowed narrow_body ((Current.current_rpc_body).held.read s p)
rpc-body-narrowed =
    union-narrowed narrow_body (body_branches Crate.crate) (hold_body Crate.crate) (body_branches Current.current) (hold_body Current.current) 2 2
    (body-union Crate.crate) (body-union Current.current) body-arm

-- rpc_msg: the xid is the same
msg-by : (s : List ℕ) (a : Answer ℕ)
    → follow (λ v n d. run (ask (Crate.rpc-body).held.read (λ y. give ((Crate.crate).msg.to (v, y)))) s n d) true a
    ≡ narrowed narrow_msg (follow (λ v n d. run (ask (Current.current_rpc_body).held.read (λ y. give ((Current.current).msg.to (v, y)))) s n d) true a)
msg-by s (took v n b) =
    ap (post (λ y. (Crate.crate).msg.to (v, y)) b) (rpc-body-narrowed s n)
    ∙ post-narrowed narrow_body narrow_msg (λ y. (Current.current).msg.to (v, y)) (λ y. (Crate.crate).msg.to (v, y)) (λ x. refl) b
    ((Current.current_rpc_body).held.read s n)
msg-by s (refused r) = refl

pub rpc-msg-narrowed : (s : List ℕ) (p : ℕ) → (Crate.rpc-msg).held.read s p ≡ narrowed narrow_msg ((Current.current_rpc_msg).held.read s p)
rpc-msg-narrowed s p =
    sym (msg-plan Crate.crate s p _ refl) ∙ msg-by s (word.kind.read s p) ∙ ap (narrowed narrow_msg) (msg-plan Current.current s p _ refl)
