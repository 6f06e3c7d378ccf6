-- Replies, over a reading, with tolerances 4, 5 and 6: a tag that is not declared is read as a default, and nothing more is read.
-- Assumes nothing.
use Rattle.std.specs.Prelude.{◌≡◌, Bool, ◌⊎◌, List, [], ◌∷◌, ltb}
use Rattle.std.proofs.Math.Path.{refl, ap, subst}
use Rattle.std.proofs.Common.{sym, ◌∙◌, inl, inr, ltb-true, ltb-false}
use Rattle.std.proofs.Math.Bool.{true, false}
use Prim.Native.Nat.{ℕ, zero, suc, ◌<◌}
use native.Mathlib.Omega.{arith}
use Rattle.xdr.specs.Meaning.Answer.{stray_tag}
use Rattle.xdr.specs.Meaning.Kind.{Codec}
use Rattle.xdr.specs.Meaning.Combinators.{Seen, means, Exact}
use Rattle.xdr.specs.Meaning.Codecs.{void}
use Rattle.xdr.specs.Meaning.Items.{number, word, opaque, closed}
use Rattle.xdr.specs.Meaning.Held.{map_seen, Meant}
use Rattle.xdr.specs.Meaning.Format.{Format, exactly, ◌⨟◌, named, Branch, branch, tagged, Choice, Lawfully, choice, Kept, Back, union}
use Rattle.xdr.specs.Meaning.Formats.{piece_held}
use Rattle.xdr.specs.Laws.Pieces.{nothing-inside}
use Rattle.rpc.specs.Meaning.Closed.{auth-flavor}
use Rattle.rpc.specs.Meaning.Messages.{AcceptedReply, ReplyBody, accepted, denied}
use Rattle.rpc.specs.Meaning.Auth.{opaque-auth, empty_auth, no_auth}
use Rattle.rpc.specs.Meaning.Reading.{mismatch-info, accept_arms, Reading}
use Rattle.rpc.specs.declared.reply.mismatch_info.{mismatch_info}

module _ {Stat Auth Accept Rejected Accepted Reply Body Msg : Type 0} (R : Reading Stat Auth Accept Rejected Accepted Reply Body Msg) where
  -- the statuses and the authentication numbers by themselves: a word that is none of them is refusal 2
  unfoldable pub accept_stat_of : Codec Stat
  accept_stat_of = closed R.stat_number R.stats R.each_stat

  unfoldable pub auth_stat_of : Codec Auth
  auth_stat_of = closed R.auth_number R.auths R.each_auth

  -- accept_body; tolerance 5: a tag that is no status of the reading is GARBAGE_ARGS
  accept_by : (tag : ℕ) (x : (accept_arms tag).Msg) (t : Bool) → ltb tag R.count ≡ t
      → Exact (tagged word accept_arms).codec.kind.Good R.from (tag, x) (R.see tag x)
  unfolding word number
  accept_by tag x true e =
      let d = R.declared tag (ltb-true tag R.count e) x in
      subst (λ z. Exact (tagged word accept_arms).codec.kind.Good R.from (tag, x) z) (sym d.1) d.2
  accept_by tag x false e =
      let d = R.stray tag (ltb-false tag R.count e) x in
      let z : 4 < 4294967296 = omega arith in
      subst (λ z. Exact (tagged word accept_arms).codec.kind.Good R.from (tag, x) z) (sym d.1)
      (subst (tagged word accept_arms).codec.kind.Good (sym d.2) (z, tt))

  pub accept_kept : Kept word accept_arms R.see R.from
  accept_kept tag x = accept_by tag x (ltb tag R.count) refl

  unfoldable pub accept_body_of : Codec Accept
  accept_body_of = union word accept_arms R.see R.from accept_kept R.back

  unfoldable pub accepted_reply_of : Format (AcceptedReply Accept) Accepted
  accepted_reply_of =
      named (opaque-auth ⨟ exactly accept_body_of)
      (record {
        to = λ x. record { verf = x.0; reply_data = x.1 };
        from = λ m. (m.verf, m.reply_data);
        from_to = λ x. refl;
        to_from = λ m. refl;
        hold = R.accepted.to;
        pieces = R.accepted.from;
        pieces_hold = R.accepted.from_to;
      })

  -- rejected_reply; tolerance 6: a tag of 2 or more is RPC_MISMATCH 0, 0
  abbrev pub reject_arms : ℕ → Branch
  reject_arms zero = branch (exactly mismatch-info)
  reject_arms (suc zero) = branch (exactly auth_stat_of)
  reject_arms (suc (suc n)) = branch (exactly void)

  abbrev pub see_reject : (tag : ℕ) → (reject_arms tag).Msg → Seen Rejected
  see_reject zero v = means (R.rejected.to (inl v)) []
  see_reject (suc zero) a = means (R.rejected.to (inr a)) []
  see_reject (suc (suc n)) u = means (R.rejected.to (inl (record { low = 0; high = 0 }))) (stray_tag ∷ [])

  abbrev pub by_reject : mismatch_info ⊎ Auth → (tag : ℕ) × (reject_arms tag).Msg
  by_reject (inl v) = (0, v)
  by_reject (inr a) = (1, a)

  abbrev pub from_reject : Rejected → (tag : ℕ) × (reject_arms tag).Msg
  from_reject m = by_reject (R.rejected.from m)

  pub reject_kept : Kept word reject_arms see_reject from_reject
  unfolding word number mismatch-info
  reject_kept zero v = ap by_reject (R.rejected.from_to (inl v))
  reject_kept (suc zero) a = ap by_reject (R.rejected.from_to (inr a))
  reject_kept (suc (suc n)) u =
      let z : 0 < 4294967296 = omega arith in
      subst (λ y. (tagged word reject_arms).codec.kind.Good (by_reject y)) (sym (R.rejected.from_to (inl (record { low = 0; high = 0 })))) (z, (z, z))

  reject_seen : (y : mismatch_info ⊎ Auth) → see_reject (by_reject y).0 (by_reject y).1 ≡ means (R.rejected.to y) []
  reject_seen (inl v) = refl
  reject_seen (inr a) = refl

  pub reject_back : Back word reject_arms see_reject from_reject
  reject_back m = reject_seen (R.rejected.from m) ∙ ap (λ z. means z []) (R.rejected.to_from m)

  unfoldable pub rejected_reply_of : Codec Rejected
  rejected_reply_of = union word reject_arms see_reject from_reject reject_kept reject_back

  -- reply_body; tolerance 4: a tag of 2 or more is MSG_ACCEPTED, null verifier, SUCCESS
  abbrev pub reply_branches : ℕ → Branch
  reply_branches zero = branch accepted_reply_of
  reply_branches (suc zero) = branch (exactly rejected_reply_of)
  reply_branches (suc (suc n)) = branch (exactly void)

  abbrev pub see_reply : (tag : ℕ) → (reply_branches tag).Msg → Seen (ReplyBody Accept Rejected)
  see_reply zero a = means (accepted a) []
  see_reply (suc zero) r = means (denied r) []
  see_reply (suc (suc n)) u = means (accepted (record { verf = empty_auth; reply_data = R.success })) (stray_tag ∷ [])

  abbrev pub from_reply : ReplyBody Accept Rejected → (tag : ℕ) × (reply_branches tag).Msg
  from_reply (accepted a) = (0, a)
  from_reply (denied r) = (1, r)

  -- the same of what the code holds
  abbrev pub stray_accepted : Accepted
  stray_accepted = R.accepted.to (no_auth, R.success)

  abbrev pub hold_reply : (tag : ℕ) → (reply_branches tag).Has → Seen Reply
  hold_reply zero a = means (R.reply.to (inl a)) []
  hold_reply (suc zero) r = means (R.reply.to (inr r)) []
  hold_reply (suc (suc n)) u = means (R.reply.to (inl stray_accepted)) (stray_tag ∷ [])

  abbrev pub mean_reply_by : List ℕ → Accepted ⊎ Rejected → ReplyBody Accept Rejected
  mean_reply_by s (inl a) = accepted (accepted_reply_of.held.mean s a)
  mean_reply_by s (inr r) = denied r

  abbrev pub mean_reply : List ℕ → Reply → ReplyBody Accept Rejected
  mean_reply s m = mean_reply_by s (R.reply.from m)

  abbrev pub inside_reply_by : List ℕ → Accepted ⊎ Rejected → Bool
  inside_reply_by s (inl a) = accepted_reply_of.held.inside s a
  inside_reply_by s (inr r) = true

  abbrev pub inside_reply : List ℕ → Reply → Bool
  inside_reply s m = inside_reply_by s (R.reply.from m)

  abbrev pub marks_reply_by : List ℕ → Accepted ⊎ Rejected → List Bool
  marks_reply_by s (inl a) = accepted_reply_of.held.marks s a
  marks_reply_by s (inr r) = []

  abbrev pub marks_reply : List ℕ → Reply → List Bool
  marks_reply s m = marks_reply_by s (R.reply.from m)

  abbrev pub reply_choice : Choice word reply_branches (ReplyBody Accept Rejected) Reply
  reply_choice = record { see = see_reply; to = from_reply; hold = hold_reply; mean = mean_reply; inside = inside_reply; marks = marks_reply }

  pub success_good : accept_body_of.kind.Good R.success
  unfolding word number accept_body_of
  success_good = let z : 0 < 4294967296 = omega arith in subst (tagged word accept_arms).codec.kind.Good (sym R.success_is) (z, tt)

  pub reply_laws : Lawfully word reply_branches reply_choice
  unfolding word number opaque piece_held auth-flavor opaque-auth accepted_reply_of
  reply_laws = record { kept = kept; back = back; square = square; within = within }
    where
      kept : (tag : ℕ) (x : (reply_branches tag).Msg) → Exact (tagged word reply_branches).codec.kind.Good from_reply (tag, x) (see_reply tag x)
      kept zero a = refl
      kept (suc zero) r = refl
      kept (suc (suc n)) u = let z : 0 < 4294967296 = omega arith in (z, ((z, (z, tt)), success_good))

      back : (m : ReplyBody Accept Rejected) → see_reply (from_reply m).0 (from_reply m).1 ≡ means m []
      back (accepted a) = refl
      back (denied r) = refl

      square : (s : List ℕ) (tag : ℕ) (y : (reply_branches tag).Has)
          → see_reply tag ((reply_branches tag).format.held.mean s y) ≡ map_seen (mean_reply s) (hold_reply tag y)
      square s zero a = ap (λ z. means (mean_reply_by s z) []) (sym (R.reply.from_to (inl a)))
      square s (suc zero) r = ap (λ z. means (mean_reply_by s z) []) (sym (R.reply.from_to (inr r)))
      square s (suc (suc n)) u =
          ap (λ z. means (accepted (record { verf = opaque-auth.held.mean s z.0; reply_data = z.1 })) (stray_tag ∷ []))
          (sym (R.accepted.from_to (no_auth, R.success)))
          ∙ ap (λ z. means (mean_reply_by s z) (stray_tag ∷ [])) (sym (R.reply.from_to (inl stray_accepted)))

      within : (s : List ℕ) (tag : ℕ) (y : (reply_branches tag).Has) → (reply_branches tag).format.held.inside s y ≡ true
          → Meant (λ z. inside_reply s z ≡ true) (hold_reply tag y)
      within s zero a h = ap (inside_reply_by s) (R.reply.from_to (inl a)) ∙ h
      within s (suc zero) r h = ap (inside_reply_by s) (R.reply.from_to (inr r))
      within s (suc (suc n)) u h =
          ap (inside_reply_by s) (R.reply.from_to (inl stray_accepted)) ∙ rw (R.accepted.from_to (no_auth, R.success)) (simp (nothing-inside s))

  unfoldable pub reply_body_of : Format (ReplyBody Accept Rejected) Reply
  reply_body_of = choice word reply_branches reply_choice reply_laws
