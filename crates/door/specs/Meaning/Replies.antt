-- What `yugerzat_write_reply` and `yugerzat_write_current_reply` take and answer. The figures are those that the readers of an rpc_msg give of a
-- reply, from the xid on.
-- Assumes nothing.
use Rattle.std.proofs.Common.{inl, inr}
use Rattle.std.specs.Prelude.{true, cond, ◌&&◌, List, [], ◌∷◌, ℕ, zero, suc, eqb, get_or}
use Rattle.std.proofs.Math.Option.{Option, none, some}
use Rattle.xdr.specs.Meaning.Combinators.{Seen, means, undeclared, among}
use Rattle.xdr.specs.Meaning.Public.{Writes}
use Rattle.rpc.specs.Meaning.Closed.{flavor_number, flavors}
use Rattle.rpc.specs.Meaning.Reading.{Reading}
use Rattle.rpc.specs.Meaning.Message.{rpc_msg_of}
use Rattle.rpc.specs.declared.reply.mismatch_info.{mismatch_info}
use Rattle.door.specs.Meaning.Given.{WriteCalled, is_word, seen_or}

-- what is made of something, if it is there
abbrev pub then_some : {A B : Type 0} → (A → B) → Option A → Option B
then_some f none = none
then_some f (some a) = some (f a)

-- two versions, if both are words
abbrev pub info_of : ℕ → ℕ → Option mismatch_info
info_of l h = cond (is_word l && is_word h) (some (record { low = l; high = h })) none

-- what is seen with nothing loose
abbrev pub plainly : {A : Type 0} → Seen A → Option A
plainly (means a []) = some a
plainly (means a (w ∷ l)) = none
plainly undeclared = none

abbrev pub with_info : {A : Type 0} → (mismatch_info → Seen A) → Option mismatch_info → Option A
with_info f none = none
with_info f (some v) = plainly (f v)

-- in a reading
module _ {Stat Auth Accept Rejected Accepted Reply Body Msg : Type 0} (R : Reading Stat Auth Accept Rejected Accepted Reply Body Msg) where
  -- only PROG_MISMATCH has versions: for the others they are not looked at
  abbrev pub accept_by : (tag low high : ℕ) → Option Accept
  accept_by zero l h = plainly (R.see 0 tt)
  accept_by (suc zero) l h = plainly (R.see 1 tt)
  accept_by (suc (suc zero)) l h = with_info (R.see 2) (info_of l h)
  accept_by (suc (suc (suc n))) l h = plainly (R.see (suc (suc (suc n))) tt)

  abbrev pub accept_of : Stat → (low high : ℕ) → Option Accept
  accept_of s l h = accept_by (R.stat_number s) l h

  -- tag 1, accepted: flavor, place and count of the verifier, the accept_stat, two versions
  abbrev pub accepted_of : (flavor at count stat low high : ℕ) → Option Reply
  accepted_of f p n st l h =
      seen_or
      (λ a. seen_or (λ s. then_some (λ d. R.reply.to (inl (R.accepted.to (record { flavor = a; body = record { at = p; count = n; clean = true } }, d)))) (accept_of s l h)) (among R.stat_number R.stats st))
      (among flavor_number flavors f)

  -- tag 2, denied by the version: two versions
  abbrev pub mismatch_of : (low high : ℕ) → Option Reply
  mismatch_of l h = then_some (λ v. R.reply.to (inr (R.rejected.to (inl v)))) (info_of l h)

  -- tag 3, denied by authentication: the auth_stat
  abbrev pub denial_of : ℕ → Option Reply
  denial_of st = seen_or (λ a. some (R.reply.to (inr (R.rejected.to (inr a))))) (among R.auth_number R.auths st)

  -- the figures from the tag on
  abbrev pub reply_of : List ℕ → Option Reply
  reply_of l =
      cond (eqb (get_or l 1 0) 1) (accepted_of (get_or l 2 0) (get_or l 3 0) (get_or l 4 0) (get_or l 5 0) (get_or l 6 0) (get_or l 7 0))
      (cond (eqb (get_or l 1 0) 2) (mismatch_of (get_or l 2 0) (get_or l 3 0)) (cond (eqb (get_or l 1 0) 3) (denial_of (get_or l 2 0)) none))

  abbrev pub reply_given : List ℕ → Option Msg
  reply_given l = cond (is_word (get_or l 0 0)) (then_some (λ r. R.msg.to (get_or l 0 0, R.body.to (inr r))) (reply_of l)) none

  abbrev pub WriteReplyCalled : (s l o : List ℕ) (start : ℕ) (i : List ℕ) (r : ℕ) (o' i' : List ℕ) → Type 0
  WriteReplyCalled s l o start i r o' i' =
      WriteCalled (λ x w o'. Writes (rpc_msg_of R) s x start o w o') 8 reply_given l o i r o' i'
