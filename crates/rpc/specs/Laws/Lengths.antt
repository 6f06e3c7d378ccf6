-- A rewriting is never longer than the larger of 40 bytes and the bytes read: every form is as long as what is written of it, but for the
-- defaults of stray tags, and those are short.
-- Assumes nothing.
use Rattle.std.specs.Prelude.{◌≡◌, refl, Bool, List, ◌∷◌, ltb}
use Rattle.std.proofs.Math.Path.{sym, ap, subst}
use Rattle.std.proofs.Common.{◌∙◌, arith, ltb-true, ltb-false}
use Rattle.std.proofs.Math.Bool.{true, false}
use Rattle.std.proofs.Math.Logic.{inl}
use Prim.Native.Nat.{ℕ, zero, suc, ◌≤◌}
use Rattle.std.proofs.Math.ListN.{length}
use Rattle.xdr.specs.Meaning.Answer.{Way}
use Rattle.xdr.specs.Meaning.Combinators.{means}
use Rattle.xdr.specs.Meaning.Codecs.{◌⨾◌}
use Rattle.xdr.specs.Meaning.Items.{number, word, opaque}
use Rattle.xdr.specs.Meaning.Format.{exactly, ◌⨟◌, tagged}
use Rattle.xdr.specs.Meaning.Formats.{bytes, word_list}
use Rattle.xdr.specs.Laws.Lengths.{Lengths, Within, weaken, void-lengths, void-within, chain-within, chain-grows, chain-lengths, pair-within, pair-lengths, view-within, view-lengths, no_default, word-lengths, word-within, opaque-within, words-within, closed-within}
use Rattle.rpc.specs.Meaning.Closed.{msg-type, msg_type_number, msg_types, each_msg_type, reply-stat, reply_stat_number, reply_stats, each_reply_stat, reject-stat, reject_stat_number, reject_stats, each_reject_stat, auth-flavor, flavor_number, flavors, each_auth_flavor}
use Rattle.rpc.specs.Meaning.Messages.{ReplyBody, accepted, RpcBody, call}
use Rattle.rpc.specs.Meaning.Auth.{opaque-auth, empty_auth, auth-unix}
use Rattle.rpc.specs.Meaning.Reading.{mismatch-info, accept_arms, Reading}
use Rattle.rpc.specs.Meaning.Reply.{accept_stat_of, auth_stat_of, accept_body_of, accepted_reply_of, reject_arms, see_reject, by_reject, from_reject, rejected_reply_of, reply_branches, see_reply, from_reply, reply_body_of}
use Rattle.rpc.specs.Meaning.Crate.{crate, accept-stat, auth-stat, accept-body, accepted-reply, rejected-reply, reply-body, rpc-body, rpc-msg}
use Rattle.rpc.specs.Meaning.Message.{call-body, body_branches, see_body, from_body, empty_call, rpc_body_of, rpc_msg_of}

-- what is seen with these ways is seen as no other message
same-message : {N : Type 0} {a m : N} {u v : List Way} → means a u ≡ means m v → a ≡ m
same-message e = cc

-- the closed enumerations
pub msg-type-within : Within 0 msg-type.kind
unfolding msg-type
msg-type-within = closed-within msg_type_number msg_types each_msg_type

pub reply-stat-within : Within 0 reply-stat.kind
unfolding reply-stat
reply-stat-within = closed-within reply_stat_number reply_stats each_reply_stat

pub reject-stat-within : Within 0 reject-stat.kind
unfolding reject-stat
reject-stat-within = closed-within reject_stat_number reject_stats each_reject_stat

pub auth-flavor-within : Within 0 auth-flavor.kind
unfolding auth-flavor
auth-flavor-within = closed-within flavor_number flavors each_auth_flavor

-- records
pub mismatch-info-lengths : Lengths 8 8 mismatch-info.kind
unfolding mismatch-info
mismatch-info-lengths = view-lengths (pair-lengths word-lengths word-lengths)

pub mismatch-info-within : Within 0 mismatch-info.kind
unfolding mismatch-info
mismatch-info-within = view-within _ _ (word ⨾ word).laws (pair-within word-within word-within) (λ x m l u w e s f. no_default s)

pub opaque-auth-within : Within 0 opaque-auth.codec.kind
unfolding opaque-auth
opaque-auth-within =
    view-within _ _ (exactly auth-flavor ⨟ bytes).codec.laws (pair-within auth-flavor-within opaque-within) (λ x m l u w e s f. no_default s)

pub auth-unix-within : Within 0 auth-unix.codec.kind
unfolding auth-unix
auth-unix-within =
    view-within _ _ (exactly word ⨟ bytes ⨟ exactly word ⨟ exactly word ⨟ word_list).codec.laws
    (pair-within word-within (pair-within opaque-within (pair-within word-within (pair-within word-within words-within))))
    (λ x m l u w e s f. no_default s)

pub call-body-within : Within 0 call-body.codec.kind
unfolding call-body
call-body-within =
    view-within _ _ (exactly word ⨟ exactly word ⨟ exactly word ⨟ exactly word ⨟ opaque-auth ⨟ opaque-auth).codec.laws
    (pair-within word-within (pair-within word-within (pair-within word-within (pair-within word-within (pair-within opaque-auth-within opaque-auth-within)))))
    (λ x m l u w e s f. no_default s)

-- the lengths of what follows an accept status
accept-arm : (tag : ℕ) → Within 0 (accept_arms tag).format.codec.kind
accept-arm zero = void-within
accept-arm (suc zero) = void-within
accept-arm (suc (suc zero)) = mismatch-info-within
accept-arm (suc (suc (suc n))) = void-within

accept-long : (tag : ℕ) → Lengths 0 8 (accept_arms tag).format.codec.kind
accept-long zero = record { of = λ m w e f. omega (arith, void-lengths.of m w e f) }
accept-long (suc zero) = record { of = λ m w e f. omega (arith, void-lengths.of m w e f) }
accept-long (suc (suc zero)) = record { of = λ m w e f. omega (arith, mismatch-info-lengths.of m w e f) }
accept-long (suc (suc (suc n))) = record { of = λ m w e f. omega (arith, void-lengths.of m w e f) }

-- over a reading
module _ {Stat Auth Accept Rejected Accepted Reply Body Msg : Type 0} (R : Reading Stat Auth Accept Rejected Accepted Reply Body Msg) where
  pub accept-stat-within : Within 0 (accept_stat_of R).kind
  unfolding accept_stat_of
  accept-stat-within = closed-within R.stat_number R.stats R.each_stat

  pub auth-stat-within : Within 0 (auth_stat_of R).kind
  unfolding auth_stat_of
  auth-stat-within = closed-within R.auth_number R.auths R.each_auth

  -- accept_body: its default has no more bytes than the tag
  accept_by : (tag : ℕ) (t : Bool) → ltb tag R.count ≡ t → (x : (accept_arms tag).Msg) (m : Accept) (l : Way) (u : List Way)
      → R.see tag x ≡ means m (l ∷ u) → length ((tagged word accept_arms).codec.kind.write (R.from m)) ≤ 4
  unfolding word number
  accept_by tag true e x m l u s = no_default (sym (R.declared tag (ltb-true tag R.count e) x).1 ∙ s)
  accept_by tag false e x m l u s =
      let d = R.stray tag (ltb-false tag R.count e) x in
      let q : d.0 ≡ m = same-message (sym d.1 ∙ s) in
      subst (λ z. length ((tagged word accept_arms).codec.kind.write z) ≤ 4) (sym (ap R.from (sym q) ∙ d.2)) (omega arith)

  accept-default : (tag : ℕ) (x : (accept_arms tag).Msg) (m : Accept) (l : Way) (u : List Way) → R.see tag x ≡ means m (l ∷ u)
      → length ((tagged word accept_arms).codec.kind.write (R.from m)) ≤ 4
  accept-default tag = accept_by tag (ltb tag R.count) refl

  pub accept-body-within : Within 0 (accept_body_of R).kind
  unfolding accept_body_of
  accept-body-within =
      view-within _ _ (tagged word accept_arms).codec.laws (chain-within word-within accept-arm)
      (λ x m l u w e s f. omega (arith, accept-default x.0 x.1 m l u s, (chain-lengths word-lengths accept-long).of x w e f))

  pub accepted-reply-within : Within 0 (accepted_reply_of R).codec.kind
  unfolding accepted_reply_of
  accepted-reply-within =
      view-within _ _ (opaque-auth ⨟ exactly (accept_body_of R)).codec.laws (pair-within opaque-auth-within accept-body-within)
      (λ x m l u w e s f. no_default s)

  -- rejected_reply: its default has 12 bytes
  reject-arm : (tag : ℕ) → Within 8 (reject_arms R tag).format.codec.kind
  reject-arm zero = weaken (omega arith) mismatch-info-within
  reject-arm (suc zero) = weaken (omega arith) auth-stat-within
  reject-arm (suc (suc n)) = weaken (omega arith) void-within

  reject-default : (tag : ℕ) (x : (reject_arms R tag).Msg) (m : Rejected) (l : Way) (u : List Way) → see_reject R tag x ≡ means m (l ∷ u)
      → length ((tagged word (reject_arms R)).codec.kind.write (from_reject R m)) ≤ 12
  unfolding word number mismatch-info
  reject-default zero x m l u s = no_default s
  reject-default (suc zero) x m l u s = no_default s
  reject-default (suc (suc n)) x m l u s =
      let q : R.rejected.to (inl (record { low = 0; high = 0 })) ≡ m = same-message s in
      let d : inl (record { low = 0; high = 0 }) ≡ R.rejected.from m = sym (R.rejected.from_to _) ∙ ap R.rejected.from q in
      subst (λ z. length ((tagged word (reject_arms R)).codec.kind.write (by_reject R z)) ≤ 12) d (omega arith)

  pub rejected-reply-within : Within 12 (rejected_reply_of R).kind
  unfolding rejected_reply_of
  rejected-reply-within =
      view-within _ _ (tagged word (reject_arms R)).codec.laws (chain-grows word-lengths word-within reject-arm)
      (λ x m l u w e s f. omega (arith, reject-default x.0 x.1 m l u s))

  -- reply_body: 16
  reply-arm : (tag : ℕ) → Within 12 (reply_branches R tag).format.codec.kind
  reply-arm zero = weaken (omega arith) accepted-reply-within
  reply-arm (suc zero) = rejected-reply-within
  reply-arm (suc (suc n)) = weaken (omega arith) void-within

  success-four : length ((accept_body_of R).kind.write R.success) ≤ 4
  unfolding word number accept_body_of
  success-four = subst (λ z. length ((tagged word accept_arms).codec.kind.write z) ≤ 4) (sym R.success_is) (omega arith)

  reply-default : (tag : ℕ) (x : (reply_branches R tag).Msg) (m : ReplyBody Accept Rejected) (l : Way) (u : List Way) → see_reply R tag x ≡ means m (l ∷ u)
      → length ((tagged word (reply_branches R)).codec.kind.write (from_reply R m)) ≤ 16
  unfolding word number opaque auth-flavor opaque-auth accepted_reply_of
  reply-default zero x m l u s = no_default s
  reply-default (suc zero) x m l u s = no_default s
  reply-default (suc (suc n)) x m l u s =
      let q : accepted (record { verf = empty_auth; reply_data = R.success }) ≡ m = same-message s in
      subst (λ z. length ((tagged word (reply_branches R)).codec.kind.write (from_reply R z)) ≤ 16) q (omega (arith, success-four))

  pub reply-body-within : Within 16 (reply_body_of R).codec.kind
  unfolding reply_body_of
  reply-body-within =
      view-within _ _ (tagged word (reply_branches R)).codec.laws (chain-grows word-lengths word-within reply-arm)
      (λ x m l u w e s f. omega (arith, reply-default x.0 x.1 m l u s))

  -- rpc_body: 36
  body-arm : (tag : ℕ) → Within 32 (body_branches R tag).format.codec.kind
  body-arm zero = weaken (omega arith) call-body-within
  body-arm (suc zero) = weaken (omega arith) reply-body-within
  body-arm (suc (suc n)) = weaken (omega arith) void-within

  body-default : (tag : ℕ) (x : (body_branches R tag).Msg) (m : RpcBody Accept Rejected) (l : Way) (u : List Way) → see_body R tag x ≡ means m (l ∷ u)
      → length ((tagged word (body_branches R)).codec.kind.write (from_body R m)) ≤ 36
  unfolding word number opaque auth-flavor opaque-auth call-body
  body-default zero x m l u s = no_default s
  body-default (suc zero) x m l u s = no_default s
  body-default (suc (suc n)) x m l u s =
      let q : call empty_call ≡ m = same-message s in
      subst (λ z. length ((tagged word (body_branches R)).codec.kind.write (from_body R z)) ≤ 36) q (omega arith)

  pub rpc-body-within : Within 36 (rpc_body_of R).codec.kind
  unfolding rpc_body_of
  rpc-body-within =
      view-within _ _ (tagged word (body_branches R)).codec.laws (chain-grows word-lengths word-within body-arm)
      (λ x m l u w e s f. omega (arith, body-default x.0 x.1 m l u s))

  -- rpc_msg: 40
  pub rpc-msg-within : Within 40 (rpc_msg_of R).codec.kind
  unfolding rpc_msg_of
  rpc-msg-within =
      view-within _ _ (exactly word ⨟ rpc_body_of R).codec.laws (chain-grows word-lengths word-within (λ x. rpc-body-within))
      (λ x m l u w e s f. no_default s)

-- the crate's
pub crate-accept-stat-within : Within 0 accept-stat.kind
crate-accept-stat-within = accept-stat-within crate

pub crate-auth-stat-within : Within 0 auth-stat.kind
crate-auth-stat-within = auth-stat-within crate

pub crate-accept-body-within : Within 0 accept-body.kind
crate-accept-body-within = accept-body-within crate

pub crate-accepted-reply-within : Within 0 accepted-reply.codec.kind
crate-accepted-reply-within = accepted-reply-within crate

pub crate-rejected-reply-within : Within 12 rejected-reply.kind
crate-rejected-reply-within = rejected-reply-within crate

pub crate-reply-body-within : Within 16 reply-body.codec.kind
crate-reply-body-within = reply-body-within crate

pub crate-rpc-body-within : Within 36 rpc-body.codec.kind
crate-rpc-body-within = rpc-body-within crate

pub crate-rpc-msg-within : Within 40 rpc-msg.codec.kind
crate-rpc-msg-within = rpc-msg-within crate
