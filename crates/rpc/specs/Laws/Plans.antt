-- How each kind of the crate is read: the plan of a record, the tags of a union, the numbers of an enumeration. An inner reader's proof cites `inner` alone.
-- Assumes nothing.
use Rattle.std.specs.Prelude.{◌≡◌, true, List, ℕ}
use Rattle.std.proofs.Math.Path.{refl}
use Rattle.xdr.specs.Meaning.Answer.{Answer}
use Rattle.xdr.specs.Meaning.Items.{word, word_pair}
use Rattle.xdr.specs.Meaning.Format.{exactly}
use Rattle.xdr.specs.Meaning.Formats.{bytes, word_list}
use Rattle.xdr.specs.Laws.Plans.{Prog, ask, give, run, planned, plan, planned-as, at, ◌then◌, asks}
use Rattle.xdr.specs.Laws.Pairs.{two-words, words-then}
use Rattle.xdr.specs.Laws.Keys.{keys}
use Rattle.rpc.specs.Laws.Closed.{numbers}
use Rattle.xdr.specs.Laws.Unions.{Union, arm_branches, arms-read, unions}
use Rattle.rpc.specs.Meaning.Closed.{auth-flavor}
use Rattle.rpc.specs.Meaning.Auth.{opaque-auth, auth-unix}
use Rattle.rpc.specs.Meaning.Reading.{mismatch-info, accept_arms, Reading}
use Rattle.rpc.specs.Meaning.Reply.{accept_kept, accept_body_of, accepted_reply_of, reject_arms, see_reject, from_reject, reject_kept, reject_back, rejected_reply_of, reply_branches, hold_reply, reply_body_of}
use Rattle.rpc.specs.Meaning.Message.{call-body, body_branches, hold_body, rpc_body_of, rpc_msg_of}
use Rattle.rpc.specs.Meaning.Crate.{see_accept, crate, accept-body, rejected-reply, reply-body, rpc-body}

-- f reads as P plans
abbrev pub Reads : {T : Type 0} → (List ℕ → ℕ → Answer T) → Prog T → Type 0
Reads {T} f P = (s : List ℕ) (p : ℕ) (z : Answer T) → z ≡ run P s p true → z ≡ f s p

-- the records, field by field
pub info-plan : Reads mismatch-info.kind.read (ask word_pair.kind.read (λ x. give (record { low = x.0; high = x.1 })))
unfolding mismatch-info
info-plan = planned (planned-as two-words _ (λ m. (m.low, m.high)) (λ x. refl) (λ m. refl))

pub auth-plan : Reads opaque-auth.held.read (ask auth-flavor.kind.read (λ x. ask bytes.held.read (λ y. give (record { flavor = x; body = y }))))
unfolding opaque-auth
auth-plan = planned (plan (at (exactly auth-flavor) then at bytes) _)

pub unix-plan : Reads auth-unix.held.read
    (ask word.kind.read (λ a. ask bytes.held.read (λ b. ask word_pair.kind.read (λ c. ask word_list.held.read (λ d.
    give (record { stamp = a; machinename = b; uid = c.0; gid = c.1; gids = d }))))))
unfolding auth-unix
unix-plan = planned (plan (at (exactly word) then at bytes then words-then (at word_list)) _)

pub call-plan : Reads call-body.held.read
    (ask word_pair.kind.read (λ a. ask word_pair.kind.read (λ b. ask opaque-auth.held.read (λ c. ask opaque-auth.held.read (λ d.
    give (record { rpcvers = a.0; prog = a.1; vers = b.0; proc = b.1; cred = c; verf = d }))))))
unfolding call-body
call-plan = planned (plan (words-then (words-then (at opaque-auth then at opaque-auth))) _)

-- those of a reading
module _ {Stat Auth Accept Rejected Accepted Reply Body Msg : Type 0} (R : Reading Stat Auth Accept Rejected Accepted Reply Body Msg) where
  pub accepted-plan : Reads (accepted_reply_of R).held.read
      (ask opaque-auth.held.read (λ a. ask (accept_body_of R).kind.read (λ b. give (R.accepted.to (a, b)))))
  unfolding accepted_reply_of
  accepted-plan = planned (plan (at opaque-auth then at (exactly (accept_body_of R))) _)

  pub msg-plan : Reads (rpc_msg_of R).held.read (ask word.kind.read (λ a. ask (rpc_body_of R).held.read (λ b. give (R.msg.to (a, b)))))
  unfolding rpc_msg_of
  msg-plan = planned (plan (at (exactly word) then at (rpc_body_of R)) _)

  -- the unions, by their tags
  pub accept-union : Union (exactly (accept_body_of R)) (arm_branches accept_arms) R.see R.count
  unfolding accept_body_of
  accept-union = record { is = arms-read accept_arms R.see R.from (accept_kept R) R.back }

  pub reject-union : Union (exactly (rejected_reply_of R)) (arm_branches (reject_arms R)) (see_reject R) 2
  unfolding rejected_reply_of
  reject-union = record { is = arms-read (reject_arms R) (see_reject R) (from_reject R) (reject_kept R) (reject_back R) }

  pub reply-union : Union (reply_body_of R) (reply_branches R) (hold_reply R) 2
  unfolding reply_body_of
  reply-union = record { is = λ s p. refl }

  pub body-union : Union (rpc_body_of R) (body_branches R) (hold_body R) 2
  unfolding rpc_body_of
  body-union = record { is = λ s p. refl }

-- those of the crate's reading
pub crate-accept-union : Union (exactly accept-body) (arm_branches accept_arms) see_accept 5
crate-accept-union = accept-union crate

pub crate-reject-union : Union (exactly rejected-reply) (arm_branches (reject_arms crate)) (see_reject crate) 2
crate-reject-union = reject-union crate

pub crate-reply-union : Union reply-body (reply_branches crate) (hold_reply crate) 2
crate-reply-union = reply-union crate

pub crate-body-union : Union rpc-body (body_branches crate) (hold_body crate) 2
crate-body-union = body-union crate

-- what is the same in every reading
pub ruleset shared-inner = (keys, unions, info-plan, auth-plan, unix-plan, call-plan, accepted-plan, msg-plan, asks)

pub ruleset inner =
    (shared-inner, numbers, crate-accept-union, crate-reject-union, crate-reply-union, crate-body-union)
