-- What the marks of each kind tell, and which they are.
-- Assumes nothing.
use Rattle.std.specs.Prelude.{◌≡◌, Bool, true, false, List, [], ◌∷◌, ◌++◌, ℕ, zero, suc, ltb}
use Rattle.std.proofs.Math.Path.{refl, sym, ap}
use Rattle.std.proofs.Common.{subst, ◌∙◌, inl, inr, ltb-true, ltb-false}
use Rattle.xdr.specs.Meaning.Items.{word}
use Rattle.xdr.specs.Meaning.Format.{exactly, ◌⨟◌}
use Rattle.xdr.specs.Meaning.Formats.{piece_held, bytes, words_held, word_list}
use Rattle.xdr.specs.Meaning.Marks.{all_clean, Marked, MarksAre}
use Rattle.xdr.specs.Laws.Unpadded.{Unpadded, SeesNone, void-unpadded, word-unpadded, chain-unpadded, pair-unpadded, view-unpadded, closed-unpadded}
use Rattle.xdr.specs.Laws.Marked.{CarriesTo, plain-marked, pair-marked, named-marked, choice-marked, bytes-marked, words-marked}
use Rattle.rpc.specs.Meaning.Closed.{msg-type, msg_type_number, msg_types, each_msg_type, reply-stat, reply_stat_number, reply_stats, each_reply_stat, reject-stat, reject_stat_number, reject_stats, each_reject_stat, auth-flavor, flavor_number, flavors, each_auth_flavor}
use Rattle.rpc.specs.Meaning.Auth.{opaque-auth, no_auth, auth-unix}
use Rattle.rpc.specs.Meaning.Reading.{mismatch-info, accept_arms, Reading}
use Rattle.rpc.specs.Meaning.Reply.{accept_stat_of, auth_stat_of, accept_body_of, accepted_reply_of, reject_arms, see_reject, rejected_reply_of, reply_branches, stray_accepted, hold_reply, marks_reply_by, marks_reply, reply_choice, reply_laws, reply_body_of}
use Rattle.rpc.specs.Meaning.Message.{call-body, body_branches, no_call, hold_body, marks_body_by, marks_body, body_choice, body_laws, rpc_body_of, rpc_msg_of}
use Rattle.rpc.specs.Meaning.Crate.{crate, accept-stat, auth-stat, accept-body, accepted-reply, rejected-reply, reply-body, rpc-body, rpc-msg}
use Rattle.rpc.specs.Meaning.Current.{current, current_accept_stat, current_auth_stat, current_accept_body, current_accepted_reply, current_rejected_reply, current_reply_body, current_rpc_body, current_rpc_msg}
use Rattle.rpc.specs.declared.auth.opaque_auth.{opaque_auth}
use Rattle.rpc.specs.declared.auth.auth_unix.{auth_unix}
use Rattle.rpc.specs.declared.message.call_body.{call_body}

-- without padding
pub msg-type-unpadded : Unpadded msg-type.kind
unfolding msg-type
msg-type-unpadded = closed-unpadded msg_type_number msg_types each_msg_type

pub reply-stat-unpadded : Unpadded reply-stat.kind
unfolding reply-stat
reply-stat-unpadded = closed-unpadded reply_stat_number reply_stats each_reply_stat

pub reject-stat-unpadded : Unpadded reject-stat.kind
unfolding reject-stat
reject-stat-unpadded = closed-unpadded reject_stat_number reject_stats each_reject_stat

pub auth-flavor-unpadded : Unpadded auth-flavor.kind
unfolding auth-flavor
auth-flavor-unpadded = closed-unpadded flavor_number flavors each_auth_flavor

pub mismatch-info-unpadded : Unpadded mismatch-info.kind
unfolding mismatch-info
mismatch-info-unpadded = view-unpadded (λ x. refl) (pair-unpadded word-unpadded word-unpadded)

accept-arm : (tag : ℕ) → Unpadded (accept_arms tag).format.codec.kind
accept-arm zero = void-unpadded
accept-arm (suc zero) = void-unpadded
accept-arm (suc (suc zero)) = mismatch-info-unpadded
accept-arm (suc (suc (suc n))) = void-unpadded

-- with pieces
pub opaque-auth-marked : Marked opaque-auth.held
unfolding opaque-auth
opaque-auth-marked = named-marked (exactly auth-flavor ⨟ bytes) _ (pair-marked (plain-marked auth-flavor-unpadded) bytes-marked)

pub auth-unix-marked : Marked auth-unix.held
unfolding auth-unix
auth-unix-marked =
    named-marked (exactly word ⨟ bytes ⨟ exactly word ⨟ exactly word ⨟ word_list) _
    (pair-marked (plain-marked word-unpadded)
    (pair-marked bytes-marked (pair-marked (plain-marked word-unpadded) (pair-marked (plain-marked word-unpadded) words-marked))))

pub call-body-marked : Marked call-body.held
unfolding call-body
call-body-marked =
    named-marked (exactly word ⨟ exactly word ⨟ exactly word ⨟ exactly word ⨟ opaque-auth ⨟ opaque-auth) _
    (pair-marked (plain-marked word-unpadded)
    (pair-marked (plain-marked word-unpadded)
    (pair-marked (plain-marked word-unpadded) (pair-marked (plain-marked word-unpadded) (pair-marked opaque-auth-marked opaque-auth-marked)))))

-- over a reading
module _ {Stat Auth Accept Rejected Accepted Reply Body Msg : Type 0} (R : Reading Stat Auth Accept Rejected Accepted Reply Body Msg) where
  pub accept-stat-unpadded : Unpadded (accept_stat_of R).kind
  unfolding accept_stat_of
  accept-stat-unpadded = closed-unpadded R.stat_number R.stats R.each_stat

  pub auth-stat-unpadded : Unpadded (auth_stat_of R).kind
  unfolding auth_stat_of
  auth-stat-unpadded = closed-unpadded R.auth_number R.auths R.each_auth

  accept_by : (tag : ℕ) (x : (accept_arms tag).Msg) (t : Bool) → ltb tag R.count ≡ t → SeesNone (R.see tag x)
  accept_by tag x true e = subst SeesNone (sym (R.declared tag (ltb-true tag R.count e) x).1) refl
  accept_by tag x false e = subst SeesNone (sym (R.stray tag (ltb-false tag R.count e) x).1) refl

  pub accept-body-unpadded : Unpadded (accept_body_of R).kind
  unfolding accept_body_of
  accept-body-unpadded = view-unpadded (λ y. accept_by y.0 y.1 (ltb y.0 R.count) refl) (chain-unpadded word-unpadded accept-arm)

  reject-arm : (tag : ℕ) → Unpadded (reject_arms R tag).format.codec.kind
  reject-arm zero = mismatch-info-unpadded
  reject-arm (suc zero) = auth-stat-unpadded
  reject-arm (suc (suc n)) = void-unpadded

  reject-sees : (tag : ℕ) (x : (reject_arms R tag).Msg) → SeesNone (see_reject R tag x)
  reject-sees zero x = refl
  reject-sees (suc zero) x = refl
  reject-sees (suc (suc n)) x = refl

  pub rejected-reply-unpadded : Unpadded (rejected_reply_of R).kind
  unfolding rejected_reply_of
  rejected-reply-unpadded = view-unpadded (λ y. reject-sees y.0 y.1) (chain-unpadded word-unpadded reject-arm)

  pub accepted-reply-marked : Marked (accepted_reply_of R).held
  unfolding accepted_reply_of
  accepted-reply-marked = named-marked (opaque-auth ⨟ exactly (accept_body_of R)) _ (pair-marked opaque-auth-marked (plain-marked accept-body-unpadded))

  reply-arm : (tag : ℕ) → Marked (reply_branches R tag).format.held
  reply-arm zero = accepted-reply-marked
  reply-arm (suc zero) = plain-marked rejected-reply-unpadded
  reply-arm (suc (suc n)) = plain-marked void-unpadded

  stray-clean : (s : List ℕ) → (accepted_reply_of R).held.marks s (stray_accepted R) ≡ true ∷ []
  unfolding accepted_reply_of opaque-auth auth-flavor piece_held
  stray-clean s = ap (λ z. (z.0.body.clean ∷ []) ++ []) (R.accepted.from_to (no_auth, R.success))

  reply-carries : (s : List ℕ) (tag : ℕ) (y : (reply_branches R tag).Has)
      → CarriesTo (λ z. all_clean (marks_reply R s z)) (all_clean ((reply_branches R tag).format.held.marks s y)) (hold_reply R tag y)
  reply-carries s zero a = ap (λ z. all_clean (marks_reply_by R s z)) (R.reply.from_to (inl a))
  reply-carries s (suc zero) r = ap (λ z. all_clean (marks_reply_by R s z)) (R.reply.from_to (inr r))
  reply-carries s (suc (suc n)) u =
      ap (λ z. all_clean (marks_reply_by R s z)) (R.reply.from_to (inl (stray_accepted R))) ∙ ap all_clean (stray-clean s)

  pub reply-body-marked : Marked (reply_body_of R).held
  unfolding reply_body_of
  reply-body-marked = choice-marked word (reply_branches R) word-unpadded reply-arm (reply_choice R) (reply_laws R) reply-carries

  body-arm : (tag : ℕ) → Marked (body_branches R tag).format.held
  body-arm zero = call-body-marked
  body-arm (suc zero) = reply-body-marked
  body-arm (suc (suc n)) = plain-marked void-unpadded

  no-call-clean : (s : List ℕ) → call-body.held.marks s no_call ≡ true ∷ true ∷ []
  unfolding call-body opaque-auth auth-flavor piece_held
  no-call-clean s = refl

  body-carries : (s : List ℕ) (tag : ℕ) (y : (body_branches R tag).Has)
      → CarriesTo (λ z. all_clean (marks_body R s z)) (all_clean ((body_branches R tag).format.held.marks s y)) (hold_body R tag y)
  body-carries s zero c = ap (λ z. all_clean (marks_body_by R s z)) (R.body.from_to (inl c))
  body-carries s (suc zero) r = ap (λ z. all_clean (marks_body_by R s z)) (R.body.from_to (inr r))
  body-carries s (suc (suc n)) u = ap (λ z. all_clean (marks_body_by R s z)) (R.body.from_to (inl no_call)) ∙ ap all_clean (no-call-clean s)

  pub rpc-body-marked : Marked (rpc_body_of R).held
  unfolding rpc_body_of
  rpc-body-marked = choice-marked word (body_branches R) word-unpadded body-arm (body_choice R) (body_laws R) body-carries

  pub rpc-msg-marked : Marked (rpc_msg_of R).held
  unfolding rpc_msg_of
  rpc-msg-marked = named-marked (exactly word ⨟ rpc_body_of R) _ (pair-marked (plain-marked word-unpadded) rpc-body-marked)

-- in each reading
pub crate-accept-stat-unpadded : Unpadded accept-stat.kind
crate-accept-stat-unpadded = accept-stat-unpadded crate

pub crate-auth-stat-unpadded : Unpadded auth-stat.kind
crate-auth-stat-unpadded = auth-stat-unpadded crate

pub crate-accept-body-unpadded : Unpadded accept-body.kind
crate-accept-body-unpadded = accept-body-unpadded crate

pub crate-rejected-reply-unpadded : Unpadded rejected-reply.kind
crate-rejected-reply-unpadded = rejected-reply-unpadded crate

pub crate-accepted-reply-marked : Marked accepted-reply.held
crate-accepted-reply-marked = accepted-reply-marked crate

pub crate-reply-body-marked : Marked reply-body.held
crate-reply-body-marked = reply-body-marked crate

pub crate-rpc-body-marked : Marked rpc-body.held
crate-rpc-body-marked = rpc-body-marked crate

pub crate-rpc-msg-marked : Marked rpc-msg.held
crate-rpc-msg-marked = rpc-msg-marked crate

pub current-accept-stat-unpadded : Unpadded current_accept_stat.kind
current-accept-stat-unpadded = accept-stat-unpadded current

pub current-auth-stat-unpadded : Unpadded current_auth_stat.kind
current-auth-stat-unpadded = auth-stat-unpadded current

pub current-accept-body-unpadded : Unpadded current_accept_body.kind
current-accept-body-unpadded = accept-body-unpadded current

pub current-rejected-reply-unpadded : Unpadded current_rejected_reply.kind
current-rejected-reply-unpadded = rejected-reply-unpadded current

pub current-accepted-reply-marked : Marked current_accepted_reply.held
current-accepted-reply-marked = accepted-reply-marked current

pub current-reply-body-marked : Marked current_reply_body.held
current-reply-body-marked = reply-body-marked current

pub current-rpc-body-marked : Marked current_rpc_body.held
current-rpc-body-marked = rpc-body-marked current

pub current-rpc-msg-marked : Marked current_rpc_msg.held
current-rpc-msg-marked = rpc-msg-marked current

-- which they are: each law is in the shape of its method's goal
pub opaque-auth-marks : (x : opaque_auth) → MarksAre opaque-auth x (x.body.clean ∷ [])
unfolding opaque-auth auth-flavor piece_held
opaque-auth-marks x = record { are = λ s. refl }

pub auth-unix-marks : (x : auth_unix) → MarksAre auth-unix x (x.machinename.clean ∷ x.gids.clean ∷ [])
unfolding auth-unix piece_held words_held
auth-unix-marks x = record { are = λ s. refl }

pub call-body-marks : (x : call_body) → MarksAre call-body x (x.cred.body.clean ∷ x.verf.body.clean ∷ [])
unfolding call-body opaque-auth auth-flavor piece_held
call-body-marks x = record { are = λ s. refl }

module _ {Stat Auth Accept Rejected Accepted Reply Body Msg : Type 0} (R : Reading Stat Auth Accept Rejected Accepted Reply Body Msg) where
  pub accepted-reply-marks : (x : Accepted) → MarksAre (accepted_reply_of R) x ((R.accepted.from x).0.body.clean ∷ [])
  unfolding accepted_reply_of opaque-auth auth-flavor piece_held
  accepted-reply-marks x = record { are = λ s. refl }

  module _ (x : Reply) where
    pub reply-accepted-marks : (a : Accepted) (l : List Bool) → x ≡ R.reply.to (inl a) → MarksAre (accepted_reply_of R) a l → MarksAre (reply_body_of R) x l
    unfolding reply_body_of
    reply-accepted-marks a l e h =
        record { are = λ s. h.are s ∙ sym (ap (λ z. marks_reply_by R s (R.reply.from z)) e ∙ ap (marks_reply_by R s) (R.reply.from_to (inl a))) }

    pub reply-denied-marks : (r : Rejected) → x ≡ R.reply.to (inr r) → MarksAre (reply_body_of R) x []
    unfolding reply_body_of
    reply-denied-marks r e =
        record { are = λ s. sym (ap (λ z. marks_reply_by R s (R.reply.from z)) e ∙ ap (marks_reply_by R s) (R.reply.from_to (inr r))) }

  module _ (x : Body) where
    pub body-call-marks : (c : call_body) (l : List Bool) → x ≡ R.body.to (inl c) → MarksAre call-body c l → MarksAre (rpc_body_of R) x l
    unfolding rpc_body_of
    body-call-marks c l e h =
        record { are = λ s. h.are s ∙ sym (ap (λ z. marks_body_by R s (R.body.from z)) e ∙ ap (marks_body_by R s) (R.body.from_to (inl c))) }

    pub body-reply-marks : (r : Reply) (l : List Bool) → x ≡ R.body.to (inr r) → MarksAre (reply_body_of R) r l → MarksAre (rpc_body_of R) x l
    unfolding rpc_body_of
    body-reply-marks r l e h =
        record { are = λ s. h.are s ∙ sym (ap (λ z. marks_body_by R s (R.body.from z)) e ∙ ap (marks_body_by R s) (R.body.from_to (inr r))) }

  pub rpc-msg-marks : (x : Msg) (l : List Bool) → MarksAre (rpc_body_of R) (R.msg.from x).1 l → MarksAre (rpc_msg_of R) x l
  unfolding rpc_msg_of
  rpc-msg-marks x l h = record { are = h.are }

pub ruleset message-marks = (opaque-auth-marks, auth-unix-marks, call-body-marks, accepted-reply-marks, reply-accepted-marks, reply-denied-marks, body-call-marks, body-reply-marks, rpc-msg-marks)
