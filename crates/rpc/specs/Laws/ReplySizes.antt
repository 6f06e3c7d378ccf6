-- The same of the kinds that depend on a reading: how long each is written, by its pieces and its choices; and when its pieces lie inside.
-- Assumes nothing.
use Rattle.std.specs.Prelude.{◌≡◌, Bool, true, ◌⊎◌, List, [], ◌∷◌, ◌++◌, ℕ, zero, suc, ◌+◌, length}
use Rattle.std.proofs.Math.Path.{refl, sym, ap}
use Rattle.std.proofs.Common.{◌∙◌, inl, inr, append-nil, arith, length-append}
use Rattle.std.proofs.Math.Bool.{and-true}
use Rattle.xdr.specs.Meaning.Items.{word}
use Rattle.xdr.specs.Meaning.Public.{output}
use Rattle.xdr.specs.Meaning.Format.{exactly, tagged}
use Rattle.xdr.specs.Laws.Padding.{word-length}
use Rattle.xdr.specs.Laws.Write.{Ready}
use Rattle.xdr.specs.Laws.Putting.{Sized}
use Rattle.rpc.specs.Meaning.Auth.{opaque-auth}
use Rattle.rpc.specs.Meaning.Reading.{mismatch-info, accept_arms, Reading}
use Rattle.rpc.specs.Meaning.Reply.{auth_stat_of, accept_body_of, accepted_reply_of, reject_arms, by_reject, rejected_reply_of, reply_branches, from_reply, mean_reply_by, inside_reply_by, reply_body_of}
use Rattle.rpc.specs.Meaning.Message.{call-body, body_branches, from_body, mean_body_by, inside_body_by, rpc_body_of, rpc_msg_of}
use Rattle.rpc.specs.Meaning.Crate.{crate, accept-body, accepted-reply, rejected-reply, reply-body, rpc-body, rpc-msg}
use Rattle.rpc.specs.Laws.Sizes.{auth_size, auth-length, call_size, call_length, info-length, shared-insides, shared-sizes}
use Rattle.rpc.specs.declared.message.call_body.{call_body}
use Rattle.rpc.specs.declared.reply.mismatch_info.{mismatch_info}

-- what stands behind an accept status
abbrev pub behind_size : ℕ → ℕ
behind_size zero = 0
behind_size (suc zero) = 0
behind_size (suc (suc zero)) = 8
behind_size (suc (suc (suc n))) = 0

behind-length : (tag : ℕ) (x : (accept_arms tag).Msg) → length ((accept_arms tag).format.codec.kind.write x) ≡ behind_size tag
behind-length zero x = refl
behind-length (suc zero) x = refl
behind-length (suc (suc zero)) v = info-length v
behind-length (suc (suc (suc n))) x = refl

no_bytes : (xs : List ℕ) → length xs ≡ 0 → xs ≡ []
no_bytes [] e = refl
no_bytes (x ∷ xs) e = absurd (omega arith)

module _ {Stat Auth Accept Rejected Accepted Reply Body Msg : Type 0} (R : Reading Stat Auth Accept Rejected Accepted Reply Body Msg) where
  abbrev pub accept_tag : Accept → ℕ
  accept_tag m = (R.from m).0

  abbrev pub accept_size : Accept → ℕ
  accept_size m = 4 + behind_size (R.from m).0

  abbrev pub accepted_size : Accepted → ℕ
  accepted_size m = auth_size (R.accepted.from m).0 + accept_size (R.accepted.from m).1

  abbrev pub reject_size_by : mismatch_info ⊎ Auth → ℕ
  reject_size_by (inl v) = 12
  reject_size_by (inr a) = 8

  abbrev pub reject_size : Rejected → ℕ
  reject_size m = reject_size_by (R.rejected.from m)

  abbrev pub reply_size_by : Accepted ⊎ Rejected → ℕ
  reply_size_by (inl a) = 4 + accepted_size a
  reply_size_by (inr r) = 4 + reject_size r

  abbrev pub reply_size : Reply → ℕ
  reply_size m = reply_size_by (R.reply.from m)

  abbrev pub body_size_by : call_body ⊎ Reply → ℕ
  body_size_by (inl c) = 4 + call_size c
  body_size_by (inr r) = 4 + reply_size r

  abbrev pub body_size : Body → ℕ
  body_size m = body_size_by (R.body.from m)

  abbrev pub msg_size : Msg → ℕ
  msg_size m = 4 + body_size (R.msg.from m).1

  -- accept_body: what is written
  pub accept-written : (m : Accept) (tag : ℕ) (x : (accept_arms tag).Msg) → R.from m ≡ (tag, x)
      → word.kind.write tag ++ (accept_arms tag).format.codec.kind.write x ≡ (accept_body_of R).kind.write m
  unfolding accept_body_of
  accept-written m tag x e = ap (λ (y : (tag : ℕ) × (accept_arms tag).Msg). word.kind.write y.0 ++ (accept_arms y.0).format.codec.kind.write y.1) (sym e)

  accept-length : (m : Accept) → length ((accept_body_of R).kind.write m) ≡ accept_size m
  accept-length m =
      ap length (sym (accept-written m (R.from m).0 (R.from m).1 refl))
      ∙ simp (length-append, word-length) (omega (arith, behind-length (R.from m).0 (R.from m).1))

  -- a case that is its tag alone
  pub accept-bare : (m : Accept) → 4 ≡ accept_size m → word.kind.write (accept_tag m) ≡ (accept_body_of R).kind.write m
  accept-bare m h =
      sym (append-nil (word.kind.write (accept_tag m)))
      ∙ ap (λ b. word.kind.write (accept_tag m) ++ b) (sym (no_bytes _ (omega (arith, behind-length (R.from m).0 (R.from m).1))))
      ∙ accept-written m (R.from m).0 (R.from m).1 refl

  -- rejected_reply
  abbrev pub reject_written : mismatch_info ⊎ Auth → List ℕ
  reject_written (inl v) = word.kind.write 0 ++ mismatch-info.kind.write v
  reject_written (inr a) = word.kind.write 1 ++ word.kind.write (R.auth_number a)

  reject-by : (y : mismatch_info ⊎ Auth) → reject_written y ≡ (tagged word (reject_arms R)).codec.kind.write (by_reject R y)
  unfolding auth_stat_of
  reject-by (inl v) = refl
  reject-by (inr a) = refl

  pub reject-is : (m : Rejected) → reject_written (R.rejected.from m) ≡ (rejected_reply_of R).kind.write m
  unfolding rejected_reply_of
  reject-is m = reject-by (R.rejected.from m)

  reject-long : (y : mismatch_info ⊎ Auth) → length (reject_written y) ≡ reject_size_by y
  reject-long (inl v) = simp (length-append, word-length, info-length)
  reject-long (inr a) = simp (length-append, word-length)

  reject-length : (m : Rejected) → length ((rejected_reply_of R).kind.write m) ≡ reject_size m
  reject-length m = ap length (sym (reject-is m)) ∙ reject-long (R.rejected.from m)

  module _ (s : List ℕ) where
    -- accepted_reply
    pub accepted-verf : (m : Accepted) → Ready (accepted_reply_of R) s m → Ready opaque-auth s (R.accepted.from m).0
    unfolding accepted_reply_of
    accepted-verf m h =
        record { short = h.short; inside = sym (and-true (opaque-auth.held.inside s (R.accepted.from m).0)) ∙ h.inside }

    pub accepted-written : (m : Accepted)
        → output opaque-auth s (R.accepted.from m).0 ++ (accept_body_of R).kind.write (R.accepted.from m).1 ≡ output (accepted_reply_of R) s m
    unfolding accepted_reply_of
    accepted-written m = refl

    accepted-length : (m : Accepted) → Ready (accepted_reply_of R) s m → length (output (accepted_reply_of R) s m) ≡ accepted_size m
    accepted-length m h =
        ap length (sym (accepted-written m))
        ∙ simp (length-append, accept-length) (omega (arith, auth-length s (R.accepted.from m).0 (accepted-verf m h)))

    -- reply_body
    pub reply-accepted : {m : Reply} {a : Accepted} → m ≡ R.reply.to (inl a) → Ready (reply_body_of R) s m → Ready (accepted_reply_of R) s a
    unfolding reply_body_of
    reply-accepted {m} {a} e h =
        record { short = h.short; inside = sym (ap (inside_reply_by R s) (ap R.reply.from e ∙ R.reply.from_to (inl a))) ∙ h.inside }

    abbrev pub reply_written : Accepted ⊎ Rejected → List ℕ
    reply_written (inl a) = word.kind.write 0 ++ output (accepted_reply_of R) s a
    reply_written (inr r) = word.kind.write 1 ++ (rejected_reply_of R).kind.write r

    reply-by : (y : Accepted ⊎ Rejected) → reply_written y ≡ (tagged word (reply_branches R)).codec.kind.write (from_reply R (mean_reply_by R s y))
    reply-by (inl a) = refl
    reply-by (inr r) = refl

    pub reply-is : (m : Reply) → reply_written (R.reply.from m) ≡ output (reply_body_of R) s m
    unfolding reply_body_of
    reply-is m = reply-by (R.reply.from m)

    reply-long : (m : Reply) → Ready (reply_body_of R) s m → (y : Accepted ⊎ Rejected) → m ≡ R.reply.to y → length (reply_written y) ≡ reply_size_by y
    reply-long m h (inl a) e = simp (length-append, word-length) (omega (arith, accepted-length a (reply-accepted e h)))
    reply-long m h (inr r) e = simp (length-append, word-length, reject-length)

    reply-length : (m : Reply) → Ready (reply_body_of R) s m → length (output (reply_body_of R) s m) ≡ reply_size m
    reply-length m h = ap length (sym (reply-is m)) ∙ reply-long m h (R.reply.from m) (sym (R.reply.to_from m))

    -- rpc_body
    pub body_call : {m : Body} {c : call_body} → m ≡ R.body.to (inl c) → Ready (rpc_body_of R) s m → Ready call-body s c
    unfolding rpc_body_of
    body_call {m} {c} e h =
        record { short = h.short; inside = sym (ap (inside_body_by R s) (ap R.body.from e ∙ R.body.from_to (inl c))) ∙ h.inside }

    pub body-reply : {m : Body} {r : Reply} → m ≡ R.body.to (inr r) → Ready (rpc_body_of R) s m → Ready (reply_body_of R) s r
    unfolding rpc_body_of
    body-reply {m} {r} e h =
        record { short = h.short; inside = sym (ap (inside_body_by R s) (ap R.body.from e ∙ R.body.from_to (inr r))) ∙ h.inside }

    abbrev pub body_written : call_body ⊎ Reply → List ℕ
    body_written (inl c) = word.kind.write 0 ++ output call-body s c
    body_written (inr r) = word.kind.write 1 ++ output (reply_body_of R) s r

    body-by : (y : call_body ⊎ Reply) → body_written y ≡ (tagged word (body_branches R)).codec.kind.write (from_body R (mean_body_by R s y))
    body-by (inl c) = refl
    body-by (inr r) = refl

    pub body_is : (m : Body) → body_written (R.body.from m) ≡ output (rpc_body_of R) s m
    unfolding rpc_body_of
    body_is m = body-by (R.body.from m)

    body-long : (m : Body) → Ready (rpc_body_of R) s m → (y : call_body ⊎ Reply) → m ≡ R.body.to y → length (body_written y) ≡ body_size_by y
    body-long m h (inl c) e = simp (length-append, word-length) (omega (arith, call_length s c (body_call e h)))
    body-long m h (inr r) e = simp (length-append, word-length) (omega (arith, reply-length r (body-reply e h)))

    body-length : (m : Body) → Ready (rpc_body_of R) s m → length (output (rpc_body_of R) s m) ≡ body_size m
    body-length m h = ap length (sym (body_is m)) ∙ body-long m h (R.body.from m) (sym (R.body.to_from m))

    -- rpc_msg
    pub msg-body : (m : Msg) → Ready (rpc_msg_of R) s m → Ready (rpc_body_of R) s (R.msg.from m).1
    unfolding rpc_msg_of
    msg-body m h = record { short = h.short; inside = h.inside }

    pub msg-written : (m : Msg) → word.kind.write (R.msg.from m).0 ++ output (rpc_body_of R) s (R.msg.from m).1 ≡ output (rpc_msg_of R) s m
    unfolding rpc_msg_of
    msg-written m = refl

    msg-length : (m : Msg) → Ready (rpc_msg_of R) s m → length (output (rpc_msg_of R) s m) ≡ msg_size m
    msg-length m h =
        ap length (sym (msg-written m)) ∙ simp (length-append, word-length) (omega (arith, body-length (R.msg.from m).1 (msg-body m h)))

  -- the lengths, for the writers
  pub accept-sized : Sized (exactly (accept_body_of R)) accept_size
  accept-sized = record { long = λ s m b r. accept-length m }

  pub reject-sized : Sized (exactly (rejected_reply_of R)) reject_size
  reject-sized = record { long = λ s m b r. reject-length m }

  pub accepted-sized : Sized (accepted_reply_of R) accepted_size
  accepted-sized = record { long = λ s m b r. accepted-length s m r }

  pub reply-sized : Sized (reply_body_of R) reply_size
  reply-sized = record { long = λ s m b r. reply-length s m r }

  pub body-sized : Sized (rpc_body_of R) body_size
  body-sized = record { long = λ s m b r. body-length s m r }

  pub msg-sized : Sized (rpc_msg_of R) msg_size
  msg-sized = record { long = λ s m b r. msg-length s m r }

  -- whether the pieces lie inside, by what the code found of the parts
  pub reply-denied-found : (s : List ℕ) (m : Reply) (r : Rejected) → m ≡ R.reply.to (inr r) → true ≡ (reply_body_of R).held.inside s m
  unfolding reply_body_of
  reply-denied-found s m r f = sym (ap (inside_reply_by R s) (ap R.reply.from f ∙ R.reply.from_to (inr r)))

  module _ (s : List ℕ) (i : Bool) where
    pub accepted-found : (m : Accepted) → i ≡ opaque-auth.held.inside s (R.accepted.from m).0 → i ≡ (accepted_reply_of R).held.inside s m
    unfolding accepted_reply_of
    accepted-found m e = e ∙ sym (and-true (opaque-auth.held.inside s (R.accepted.from m).0))

    pub reply-accepted-found : (m : Reply) (a : Accepted) → m ≡ R.reply.to (inl a) → i ≡ (accepted_reply_of R).held.inside s a
        → i ≡ (reply_body_of R).held.inside s m
    unfolding reply_body_of
    reply-accepted-found m a f e = e ∙ sym (ap (inside_reply_by R s) (ap R.reply.from f ∙ R.reply.from_to (inl a)))

    pub body-call-found : (m : Body) (c : call_body) → m ≡ R.body.to (inl c) → i ≡ call-body.held.inside s c → i ≡ (rpc_body_of R).held.inside s m
    unfolding rpc_body_of
    body-call-found m c f e = e ∙ sym (ap (inside_body_by R s) (ap R.body.from f ∙ R.body.from_to (inl c)))

    pub body-reply-found : (m : Body) (r : Reply) → m ≡ R.body.to (inr r) → i ≡ (reply_body_of R).held.inside s r
        → i ≡ (rpc_body_of R).held.inside s m
    unfolding rpc_body_of
    body-reply-found m r f e = e ∙ sym (ap (inside_body_by R s) (ap R.body.from f ∙ R.body.from_to (inr r)))

    pub msg-found : (m : Msg) → i ≡ (rpc_body_of R).held.inside s (R.msg.from m).1 → i ≡ (rpc_msg_of R).held.inside s m
    unfolding rpc_msg_of
    msg-found m e = e

pub ruleset insides =
    (shared-insides, accepted-found, reply-accepted-found, reply-denied-found, body-call-found, body-reply-found, msg-found)

-- those of the crate's reading
pub crate-accept-sized : Sized (exactly accept-body) (accept_size crate)
crate-accept-sized = accept-sized crate

pub crate-reject-sized : Sized (exactly rejected-reply) (reject_size crate)
crate-reject-sized = reject-sized crate

pub crate-accepted-sized : Sized accepted-reply (accepted_size crate)
crate-accepted-sized = accepted-sized crate

pub crate-reply-sized : Sized reply-body (reply_size crate)
crate-reply-sized = reply-sized crate

pub crate-body-sized : Sized rpc-body (body_size crate)
crate-body-sized = body-sized crate

pub crate-msg-sized : Sized rpc-msg (msg_size crate)
crate-msg-sized = msg-sized crate

pub ruleset sizes =
    (shared-sizes, msg-found, crate-accept-sized, crate-reject-sized, crate-accepted-sized, crate-reply-sized, crate-body-sized, crate-msg-sized)
