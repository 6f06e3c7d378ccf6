-- The same of the kinds that depend on a reading.
-- Assumes nothing.
use Rattle.std.specs.Prelude.{◌≡◌, refl, List, ◌++◌, ℕ, ◌+◌, ◌≤◌, length}
use Rattle.std.proofs.Common.{sym, ap, ◌∙◌, inl, inr, arith}
use Rattle.xdr.specs.Meaning.Items.{word, word_pair}
use Rattle.xdr.specs.Meaning.Public.{output, laid}
use Rattle.xdr.specs.Laws.Padding.{word-length, word-pair-length, word-pair-bytes}
use Rattle.xdr.specs.Laws.Write.{Put, put_same, put-laid, field}
use Rattle.rpc.specs.Meaning.Auth.{opaque-auth}
use Rattle.rpc.specs.Meaning.Reading.{mismatch-info, accept_arms, Reading}
use Rattle.rpc.specs.Meaning.Reply.{accept_body_of, accepted_reply_of, rejected_reply_of, reply_body_of}
use Rattle.rpc.specs.Meaning.Message.{call-body, rpc_body_of, rpc_msg_of}
use Rattle.rpc.specs.Meaning.Crate.{crate, accept-body}
use Rattle.rpc.specs.Laws.Sizes.{auth_size, call_size}
use Rattle.rpc.specs.Laws.ReplySizes.{behind_size, accept_tag, accept_size, accept-written, accept-bare, accepted_size, accepted-written, accepted-verf, reject_size_by, reject_size, reject_written, reject-is, reply_size_by, reply_size, reply_written, reply-is, reply-accepted, body_size_by, body_size, body_written, body_is, body_call, body-reply, msg_size, msg-written, msg-body}
use Rattle.rpc.specs.Laws.Puts.{lent_from, back_at, put-sized, tag-put, shared-readies, shared-puts}
use Rattle.rpc.specs.declared.message.call_body.{call_body}
use Rattle.rpc.specs.declared.reply.mismatch_info.{mismatch_info}
use Rattle.rpc.specs.declared.reply.accept_body.{accept_body}
use Rattle.rpc.specs.declared.reply.accept_body.TheVariants.{PROG_MISMATCH}

module _ {Stat Auth Accept Rejected Accepted Reply Body Msg : Type 0} (R : Reading Stat Auth Accept Rejected Accepted Reply Body Msg) (xs ys : List ℕ) where
  -- a union's case is its tag, and what the tag says
  pub error-put : (m : Rejected) (a : Auth) (n : ℕ) → m ≡ R.rejected.to (inr a) → reject_size R m ≤ length xs → n ≡ R.auth_number a
      → ys ≡ laid (word_pair.kind.write (1, n)) xs → Put xs ys (reject_size R m) ((rejected_reply_of R).kind.write m)
  error-put m a n e h f g =
      let d = ap R.rejected.from e ∙ R.rejected.from_to (inr a) in
      let b = sym (word-pair-bytes 1 n) ∙ ap (λ v. word.kind.write 1 ++ word.kind.write v) f ∙ ap (reject_written R) (sym d) ∙ reject-is R m in
      put-sized (ap (reject_size_by R) (sym d)) (put_same b (put-laid (word-pair-length 1 n) (omega (arith, ap (reject_size_by R) d)) g))

  pub bare-put : (m : Accept) (v : ℕ) → 4 ≡ accept_size R m → v ≡ accept_tag R m → accept_size R m ≤ length xs → ys ≡ laid (word.kind.write v) xs
      → Put xs ys (accept_size R m) ((accept_body_of R).kind.write m)
  bare-put m v b e h g =
      put-sized b (put_same (ap (λ n. word.kind.write n) e ∙ accept-bare R m b) (put-laid (word-length v) (omega (arith, b)) g))

  module _ (zs : List ℕ) where
    pub reject-info-put : (m : Rejected) (v : mismatch_info) → m ≡ R.rejected.to (inl v) → reject_size R m ≤ length xs
        → ys ≡ laid (word.kind.write 0) xs → Put (lent_from 4 ys) zs 8 (mismatch-info.kind.write v)
        → Put xs (back_at 4 ys zs) (reject_size R m) ((rejected_reply_of R).kind.write m)
    reject-info-put m v e h g p =
        let d = ap R.rejected.from e ∙ R.rejected.from_to (inl v) in
        put-sized (ap (reject_size_by R) (sym d))
        (put_same (ap (reject_written R) (sym d) ∙ reject-is R m) (tag-put xs ys zs 0 (omega (arith, ap (reject_size_by R) d)) g p))

    module _ (s : List ℕ) where
      pub reply-accepted-put : (m : Reply) (a : Accepted) → m ≡ R.reply.to (inl a) → reply_size R m ≤ length xs
          → ys ≡ laid (word.kind.write 0) xs → Put (lent_from 4 ys) zs (accepted_size R a) (output (accepted_reply_of R) s a)
          → Put xs (back_at 4 ys zs) (reply_size R m) (output (reply_body_of R) s m)
      reply-accepted-put m a e h g p =
          let d = ap R.reply.from e ∙ R.reply.from_to (inl a) in
          put-sized (ap (reply_size_by R) (sym d))
          (put_same (ap (reply_written R s) (sym d) ∙ reply-is R s m) (tag-put xs ys zs 0 (omega (arith, ap (reply_size_by R) d)) g p))

      pub reply-denied-put : (m : Reply) (r : Rejected) → m ≡ R.reply.to (inr r) → reply_size R m ≤ length xs
          → ys ≡ laid (word.kind.write 1) xs → Put (lent_from 4 ys) zs (reject_size R r) ((rejected_reply_of R).kind.write r)
          → Put xs (back_at 4 ys zs) (reply_size R m) (output (reply_body_of R) s m)
      reply-denied-put m r e h g p =
          let d = ap R.reply.from e ∙ R.reply.from_to (inr r) in
          put-sized (ap (reply_size_by R) (sym d))
          (put_same (ap (reply_written R s) (sym d) ∙ reply-is R s m) (tag-put xs ys zs 1 (omega (arith, ap (reply_size_by R) d)) g p))

      pub body-call-put : (m : Body) (c : call_body) → m ≡ R.body.to (inl c) → body_size R m ≤ length xs → ys ≡ laid (word.kind.write 0) xs
          → Put (lent_from 4 ys) zs (call_size c) (output call-body s c) → Put xs (back_at 4 ys zs) (body_size R m) (output (rpc_body_of R) s m)
      body-call-put m c e h g p =
          let d = ap R.body.from e ∙ R.body.from_to (inl c) in
          put-sized (ap (body_size_by R) (sym d))
          (put_same (ap (body_written R s) (sym d) ∙ body_is R s m) (tag-put xs ys zs 0 (omega (arith, ap (body_size_by R) d)) g p))

      pub body-reply-put : (m : Body) (r : Reply) → m ≡ R.body.to (inr r) → body_size R m ≤ length xs → ys ≡ laid (word.kind.write 1) xs
          → Put (lent_from 4 ys) zs (reply_size R r) (output (reply_body_of R) s r) → Put xs (back_at 4 ys zs) (body_size R m) (output (rpc_body_of R) s m)
      body-reply-put m r e h g p =
          let d = ap R.body.from e ∙ R.body.from_to (inr r) in
          put-sized (ap (body_size_by R) (sym d))
          (put_same (ap (body_written R s) (sym d) ∙ body_is R s m) (tag-put xs ys zs 1 (omega (arith, ap (body_size_by R) d)) g p))

      -- records of two fields
      pub accepted-put : (m : Accepted) (n : ℕ) → accepted_size R m ≤ length xs → n ≡ auth_size (R.accepted.from m).0
          → Put xs ys (auth_size (R.accepted.from m).0) (output opaque-auth s (R.accepted.from m).0)
          → Put (lent_from n ys) zs (accept_size R (R.accepted.from m).1) ((accept_body_of R).kind.write (R.accepted.from m).1)
          → Put xs (back_at n ys zs) (accepted_size R m) (output (accepted_reply_of R) s m)
      accepted-put m n h e f g =
          put-sized (ap (λ k. k + accept_size R (R.accepted.from m).1) e)
          (put_same (accepted-written R s m) (field (put-sized (sym e) f) (omega arith) g))

      pub msg-put : (m : Msg) → msg_size R m ≤ length xs → ys ≡ laid (word.kind.write (R.msg.from m).0) xs
          → Put (lent_from 4 ys) zs (body_size R (R.msg.from m).1) (output (rpc_body_of R) s (R.msg.from m).1)
          → Put xs (back_at 4 ys zs) (msg_size R m) (output (rpc_msg_of R) s m)
      msg-put m h e f = put_same (msg-written R s m) (tag-put xs ys zs (R.msg.from m).0 h e f)

-- the case of accept_body that has the versions, as the code names it
module _ {Stat Auth Accept Rejected Accepted Reply Body Msg : Type 0} (R : Reading Stat Auth Accept Rejected Accepted Reply Body Msg) (named : mismatch_info → Accept) (is : (v : mismatch_info) → R.from (named v) ≡ (2, v)) where
  pub accept-info-put : (xs ys zs : List ℕ) (m : Accept) (v : mismatch_info) (t : ℕ) → m ≡ named v → t ≡ accept_tag R m → accept_size R m ≤ length xs
      → ys ≡ laid (word.kind.write t) xs → Put (lent_from 4 ys) zs 8 (mismatch-info.kind.write v)
      → Put xs (back_at 4 ys zs) (accept_size R m) ((accept_body_of R).kind.write m)
  accept-info-put xs ys zs m v t e f h g p =
      let d : R.from m ≡ (2, v) = ap R.from e ∙ is v in
      let k : accept_tag R m ≡ 2 = ap (λ (y : (tag : ℕ) × (accept_arms tag).Msg). y.0) d in
      let l : accept_size R m ≡ 12 = ap (λ n. 4 + behind_size n) k in
      put-sized (sym l)
      (put_same (ap (λ n. word.kind.write n ++ mismatch-info.kind.write v) (f ∙ k) ∙ accept-written R m 2 v d) (tag-put xs ys zs t (omega (arith, l)) g p))

pub mismatch-put : (xs ys zs : List ℕ) (m : accept_body) (v : mismatch_info) (t : ℕ) → m ≡ PROG_MISMATCH v → t ≡ accept_tag crate m
    → accept_size crate m ≤ length xs → ys ≡ laid (word.kind.write t) xs → Put (lent_from 4 ys) zs 8 (mismatch-info.kind.write v)
    → Put xs (back_at 4 ys zs) (accept_size crate m) (accept-body.kind.write m)
mismatch-put = accept-info-put crate PROG_MISMATCH (λ v. refl)

pub ruleset readies =
    (shared-readies, accepted-verf, reply-accepted, body_call, body-reply, msg-body)

pub ruleset reading-puts =
    (shared-puts, error-put, bare-put, reject-info-put, reply-accepted-put, reply-denied-put, body-call-put, body-reply-put, accepted-put, msg-put)

pub ruleset puts = (reading-puts, mismatch-put)
