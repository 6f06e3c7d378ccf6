-- The two readings: the crate's answer to any bytes is the current one, narrowed (Meaning/Narrowed). So what the crate's reading takes plain the
-- current one takes plain, of the same bytes; and they differ on accept status 5 and on the authentication numbers 0 and 6 to 14, and on nothing
-- else.
-- Assumes nothing.
use Rattle.std.specs.Prelude.{◌≡◌, refl, ◌⊎◌, ◌↔◌, Bool, true, false, cond, ◌&&◌, List, []}
use Rattle.std.proofs.Common.{sym, ap, subst, ◌∙◌, inl, inr, ⊎_elim, arith}
use Prim.Native.Nat.{ℕ, zero, suc, ◌-◌, ◌≤◌}
use borrow.Author.Tests.{ne_eqb}
use Rattle.xdr.specs.Meaning.Answer.{Answer, took, refused}
use Rattle.xdr.specs.Meaning.Combinators.{Seen, means}
use Rattle.xdr.specs.Meaning.Held.{seen_as, look_at, then_second}
use Rattle.xdr.specs.Meaning.Items.{word}
use Rattle.xdr.specs.Meaning.Format.{Format, plain, Branch, tagged}
use Rattle.xdr.specs.Laws.Answers.{word-within}
use Rattle.xdr.specs.Laws.Plans.{follow}
use Rattle.xdr.specs.Laws.Unions.{Union, arm_branches}
use Rattle.xdr.specs.declared.refusal.Refusal.{Refusal}
use Rattle.xdr.specs.declared.refusal.Refusal.TheVariants.{Undeclared}
use Rattle.rpc.specs.Meaning.Reading.{mismatch-info, accept_arms}
use Rattle.rpc.specs.Meaning.Reply.{accept_stat_of, auth_stat_of, reject_arms, see_reject}
use Rattle.rpc.specs.Meaning.Message.{body_branches, hold_body}
use Rattle.rpc.specs.Meaning.Crate as Crate
use Rattle.rpc.specs.Meaning.Current as Current
use Rattle.rpc.specs.Meaning.Narrowed.{Narrow, same, other, refused_there, map_narrow, narrow_by, narrowed, narrow_stat, narrow_auth, narrow_accept, narrow_rejected, narrow_body}
use Rattle.rpc.specs.Laws.Plans.{reject-union}
use Rattle.rpc.specs.declared.message.call_body.{call_body}
use Rattle.rpc.specs.declared.reply.mismatch_info.{mismatch_info}
use Rattle.rpc.specs.declared.current.reply.accept_stat.{accept_stat}
use Rattle.rpc.specs.declared.current.reply.accept_stat.TheVariants as acceptStat
use Rattle.rpc.specs.declared.current.reply.auth_stat.{auth_stat}
use Rattle.rpc.specs.declared.current.reply.auth_stat.TheVariants as authStat
use Rattle.rpc.specs.declared.reply.rejected_reply.TheVariants as crate·rejected
use Rattle.rpc.specs.declared.current.reply.rejected_reply.TheVariants as current·rejected

-- ---- the enumerations, by their word
module _ (s : List ℕ) (p : ℕ) where
  new-place : {v n : ℕ} {b : Bool} → word.kind.read s p ≡ took v n b → Undeclared p ≡ Undeclared (n - 4)
  new-place f = let k = (word-within s p f).2 in ap Undeclared (omega (arith, k))

  stat-at : (v n : ℕ) (b : Bool) → word.kind.read s p ≡ took v n b
      → (Crate.accept-stat).kind.read s p ≡ narrowed narrow_stat ((Current.current_accept_stat).kind.read s p)
  unfolding accept_stat_of
  stat-at zero n b f = rw f
  stat-at (suc zero) n b f = rw f
  stat-at (suc (suc zero)) n b f = rw f
  stat-at (suc (suc (suc zero))) n b f = rw f
  stat-at (suc (suc (suc (suc zero)))) n b f = rw f
  stat-at (suc (suc (suc (suc (suc zero))))) n b f = rw f (ap (λ (r : Refusal). refused r) (new-place f))
  stat-at (suc (suc (suc (suc (suc (suc v)))))) n b f =
      rw (f, ne_eqb (suc (suc (suc (suc (suc (suc v)))))) 0 (λ e. omega arith), ne_eqb (suc (suc (suc (suc (suc (suc v)))))) 1 (λ e. omega arith), ne_eqb (suc (suc (suc (suc (suc (suc v)))))) 2 (λ e. omega arith), ne_eqb (suc (suc (suc (suc (suc (suc v)))))) 3 (λ e. omega arith), ne_eqb (suc (suc (suc (suc (suc (suc v)))))) 4 (λ e. omega arith), ne_eqb (suc (suc (suc (suc (suc (suc v)))))) 5 (λ e. omega arith))

  stat-by : (a : Answer ℕ) → word.kind.read s p ≡ a → (Crate.accept-stat).kind.read s p ≡ narrowed narrow_stat ((Current.current_accept_stat).kind.read s p)
  unfolding accept_stat_of
  stat-by (took v n b) f = stat-at v n b f
  stat-by (refused r) f = rw f

  pub accept-stat-narrowed : (Crate.accept-stat).kind.read s p ≡ narrowed narrow_stat ((Current.current_accept_stat).kind.read s p)
  accept-stat-narrowed = stat-by (word.kind.read s p) refl

  auth-at : (v n : ℕ) (b : Bool) → word.kind.read s p ≡ took v n b
      → (Crate.auth-stat).kind.read s p ≡ narrowed narrow_auth ((Current.current_auth_stat).kind.read s p)
  unfolding auth_stat_of
  auth-at zero n b f = rw f (ap (λ (r : Refusal). refused r) (new-place f))
  auth-at (suc zero) n b f = rw f
  auth-at (suc (suc zero)) n b f = rw f
  auth-at (suc (suc (suc zero))) n b f = rw f
  auth-at (suc (suc (suc (suc zero)))) n b f = rw f
  auth-at (suc (suc (suc (suc (suc zero))))) n b f = rw f
  auth-at (suc (suc (suc (suc (suc (suc zero)))))) n b f = rw f (ap (λ (r : Refusal). refused r) (new-place f))
  auth-at (suc (suc (suc (suc (suc (suc (suc zero))))))) n b f = rw f (ap (λ (r : Refusal). refused r) (new-place f))
  auth-at (suc (suc (suc (suc (suc (suc (suc (suc zero)))))))) n b f = rw f (ap (λ (r : Refusal). refused r) (new-place f))
  auth-at (suc (suc (suc (suc (suc (suc (suc (suc (suc zero))))))))) n b f = rw f (ap (λ (r : Refusal). refused r) (new-place f))
  auth-at (suc (suc (suc (suc (suc (suc (suc (suc (suc (suc zero)))))))))) n b f = rw f (ap (λ (r : Refusal). refused r) (new-place f))
  auth-at (suc (suc (suc (suc (suc (suc (suc (suc (suc (suc (suc zero))))))))))) n b f = rw f (ap (λ (r : Refusal). refused r) (new-place f))
  auth-at (suc (suc (suc (suc (suc (suc (suc (suc (suc (suc (suc (suc zero)))))))))))) n b f = rw f (ap (λ (r : Refusal). refused r) (new-place f))
  auth-at (suc (suc (suc (suc (suc (suc (suc (suc (suc (suc (suc (suc (suc zero))))))))))))) n b f = rw f (ap (λ (r : Refusal). refused r) (new-place f))
  auth-at (suc (suc (suc (suc (suc (suc (suc (suc (suc (suc (suc (suc (suc (suc zero)))))))))))))) n b f = rw f (ap (λ (r : Refusal). refused r) (new-place f))
  auth-at (suc (suc (suc (suc (suc (suc (suc (suc (suc (suc (suc (suc (suc (suc (suc v))))))))))))))) n b f =
      rw (f, ne_eqb (suc (suc (suc (suc (suc (suc (suc (suc (suc (suc (suc (suc (suc (suc (suc v))))))))))))))) 0 (λ e. omega arith), ne_eqb (suc (suc (suc (suc (suc (suc (suc (suc (suc (suc (suc (suc (suc (suc (suc v))))))))))))))) 1 (λ e. omega arith), ne_eqb (suc (suc (suc (suc (suc (suc (suc (suc (suc (suc (suc (suc (suc (suc (suc v))))))))))))))) 2 (λ e. omega arith), ne_eqb (suc (suc (suc (suc (suc (suc (suc (suc (suc (suc (suc (suc (suc (suc (suc v))))))))))))))) 3 (λ e. omega arith), ne_eqb (suc (suc (suc (suc (suc (suc (suc (suc (suc (suc (suc (suc (suc (suc (suc v))))))))))))))) 4 (λ e. omega arith), ne_eqb (suc (suc (suc (suc (suc (suc (suc (suc (suc (suc (suc (suc (suc (suc (suc v))))))))))))))) 5 (λ e. omega arith), ne_eqb (suc (suc (suc (suc (suc (suc (suc (suc (suc (suc (suc (suc (suc (suc (suc v))))))))))))))) 6 (λ e. omega arith), ne_eqb (suc (suc (suc (suc (suc (suc (suc (suc (suc (suc (suc (suc (suc (suc (suc v))))))))))))))) 7 (λ e. omega arith), ne_eqb (suc (suc (suc (suc (suc (suc (suc (suc (suc (suc (suc (suc (suc (suc (suc v))))))))))))))) 8 (λ e. omega arith), ne_eqb (suc (suc (suc (suc (suc (suc (suc (suc (suc (suc (suc (suc (suc (suc (suc v))))))))))))))) 9 (λ e. omega arith), ne_eqb (suc (suc (suc (suc (suc (suc (suc (suc (suc (suc (suc (suc (suc (suc (suc v))))))))))))))) 10 (λ e. omega arith), ne_eqb (suc (suc (suc (suc (suc (suc (suc (suc (suc (suc (suc (suc (suc (suc (suc v))))))))))))))) 11 (λ e. omega arith), ne_eqb (suc (suc (suc (suc (suc (suc (suc (suc (suc (suc (suc (suc (suc (suc (suc v))))))))))))))) 12 (λ e. omega arith), ne_eqb (suc (suc (suc (suc (suc (suc (suc (suc (suc (suc (suc (suc (suc (suc (suc v))))))))))))))) 13 (λ e. omega arith), ne_eqb (suc (suc (suc (suc (suc (suc (suc (suc (suc (suc (suc (suc (suc (suc (suc v))))))))))))))) 14 (λ e. omega arith))

  auth-by : (a : Answer ℕ) → word.kind.read s p ≡ a → (Crate.auth-stat).kind.read s p ≡ narrowed narrow_auth ((Current.current_auth_stat).kind.read s p)
  unfolding auth_stat_of
  auth-by (took v n b) f = auth-at v n b f
  auth-by (refused r) f = rw f

  pub auth-stat-narrowed : (Crate.auth-stat).kind.read s p ≡ narrowed narrow_auth ((Current.current_auth_stat).kind.read s p)
  auth-stat-narrowed = auth-by (word.kind.read s p) refl

-- ---- what stands behind something that both read alike
abbrev pub post : {S T : Type 0} → (S → T) → Bool → Answer S → Answer T
post k b a = follow (λ x m d. took (k x) m d) b a

not-true : false ≡ true → ⊥
not-true e = subst (λ b. cond b ⊥ (Unit {0})) e tt

and-false : (b : Bool) → (b && false) ≡ false
and-false true = refl
and-false false = refl

module _ {A B S T : Type 0} (g : A → Narrow B) (f : S → Narrow T) (to : A → S) (there : B → T) (h : (x : A) → f (to x) ≡ map_narrow there (g x)) where
  post-by : (b : Bool) (m : ℕ) (d : Bool) (w : Narrow B) → post there b (narrow_by m d w) ≡ narrow_by m (b && d) (map_narrow there w)
  post-by b m d (same x) = refl
  post-by b m d (other x) = ap (λ c. took (there x) m c) (and-false b)
  post-by b m d refused_there = refl

  pub post-narrowed : (b : Bool) (a : Answer A) → post there b (narrowed g a) ≡ narrowed f (post to b a)
  post-narrowed b (took x m d) = post-by b m d (g x) ∙ ap (narrow_by m (b && d)) (sym (h x))
  post-narrowed b (refused r) = refl

-- ---- the unions, by their tags
module _ {T : Type 0} (branches : ℕ → Branch) (hold : (tag : ℕ) → (branches tag).Has → Seen T) (p : ℕ) where
  abbrev pub after : (tag : ℕ) → Bool → Answer (branches tag).Has → Answer T
  after tag b a =
      look_at (λ y. hold y.0 y.1) p
      (then_second (λ t. (branches t).format.codec) (plain word) (λ s t. (branches t).format.held) tag b a)

module _ {M N S T : Type 0} {F : Format M T} {G : Format N S} (f : S → Narrow T) (here : ℕ → Branch) (holds : (tag : ℕ) → (here tag).Has → Seen T)
    (theirs : ℕ → Branch) (held : (tag : ℕ) → (theirs tag).Has → Seen S) (j k : ℕ) (X : Union F here holds j) (Y : Union G theirs held k)
    (arm : (s : List ℕ) (p n tag : ℕ) (b : Bool)
    → after here holds p tag b ((here tag).format.held.read s n) ≡ narrowed f (after theirs held p tag b ((theirs tag).format.held.read s n)))
    (s : List ℕ) (p : ℕ) where
  by_word : (a : Answer ℕ) → word.kind.read s p ≡ a
      → look_at (λ y. holds y.0 y.1) p ((tagged word here).held.read s p)
      ≡ narrowed f (look_at (λ y. held y.0 y.1) p ((tagged word theirs).held.read s p))
  by_word (took tag n b) e = rw e (arm s p n tag b)
  by_word (refused r) e = rw e

  pub union-narrowed : F.held.read s p ≡ narrowed f (G.held.read s p)
  union-narrowed = X.is s p ∙ by_word (word.kind.read s p) refl ∙ ap (narrowed f) (sym (Y.is s p))

-- a tag that one case has, with what stands behind it
pub after_is : {T : Type 0} (branches : ℕ → Branch) (hold : (tag : ℕ) → (branches tag).Has → Seen T) (p tag : ℕ) (k : (branches tag).Has → T)
    → ((x : (branches tag).Has) → hold tag x ≡ means (k x) []) → (b : Bool) (a : Answer (branches tag).Has) → after branches hold p tag b a ≡ post k b a
after_is branches hold p tag k h b (took x m d) = ap (seen_as p m (b && d)) (h x)
after_is branches hold p tag k h b (refused r) = refl

-- accept_body: only PROG_MISMATCH has something behind it, and that is the same
info-arm : (p : ℕ) (b : Bool) (a : Answer mismatch_info)
    → after (arm_branches accept_arms) Crate.see_accept p 2 b a ≡ narrowed narrow_accept (after (arm_branches accept_arms) Current.see_accept p 2 b a)
info-arm p b (took v m d) = refl
info-arm p b (refused r) = refl

pub accept-arm : (s : List ℕ) (p n tag : ℕ) (b : Bool)
    → after (arm_branches accept_arms) Crate.see_accept p tag b ((arm_branches accept_arms tag).format.held.read s n)
    ≡ narrowed narrow_accept (after (arm_branches accept_arms) Current.see_accept p tag b ((arm_branches accept_arms tag).format.held.read s n))
accept-arm s p n zero b = refl
accept-arm s p n (suc zero) b = refl
accept-arm s p n (suc (suc zero)) b = info-arm p b (mismatch-info.kind.read s n)
accept-arm s p n (suc (suc (suc zero))) b = refl
accept-arm s p n (suc (suc (suc (suc zero)))) b = refl
accept-arm s p n (suc (suc (suc (suc (suc zero))))) b = refl
accept-arm s p n (suc (suc (suc (suc (suc (suc k)))))) b = refl

-- rejected_reply: only AUTH_ERROR has an authentication number behind it
reject-info : (p : ℕ) (b : Bool) (a : Answer mismatch_info)
    → after (arm_branches (reject_arms Crate.crate)) (see_reject Crate.crate) p 0 b a
    ≡ narrowed narrow_rejected (after (arm_branches (reject_arms Current.current)) (see_reject Current.current) p 0 b a)
reject-info p b (took v m d) = refl
reject-info p b (refused r) = refl

reject-arm : (s : List ℕ) (p n tag : ℕ) (b : Bool)
    → after (arm_branches (reject_arms Crate.crate)) (see_reject Crate.crate) p tag b ((arm_branches (reject_arms Crate.crate) tag).format.held.read s n)
    ≡ narrowed narrow_rejected
    (after (arm_branches (reject_arms Current.current)) (see_reject Current.current) p tag b ((arm_branches (reject_arms Current.current) tag).format.held.read s n))
reject-arm s p n zero b = reject-info p b (mismatch-info.kind.read s n)
reject-arm s p n (suc zero) b =
    after_is (arm_branches (reject_arms Crate.crate)) (see_reject Crate.crate) p 1 crate·rejected.AUTH_ERROR (λ x. refl) b ((Crate.auth-stat).kind.read s n)
    ∙ ap (post crate·rejected.AUTH_ERROR b) (auth-stat-narrowed s n)
    ∙ post-narrowed narrow_auth narrow_rejected current·rejected.AUTH_ERROR crate·rejected.AUTH_ERROR (λ x. refl) b
    ((Current.current_auth_stat).kind.read s n)
    ∙ ap (narrowed narrow_rejected)
    (sym
    (after_is (arm_branches (reject_arms Current.current)) (see_reject Current.current) p 1 current·rejected.AUTH_ERROR (λ x. refl) b
    ((Current.current_auth_stat).kind.read s n)))
reject-arm s p n (suc (suc k)) b = refl

pub rejected-reply-narrowed : (s : List ℕ) (p : ℕ)
    → (Crate.rejected-reply).kind.read s p ≡ narrowed narrow_rejected ((Current.current_rejected_reply).kind.read s p)
rejected-reply-narrowed =
    union-narrowed narrow_rejected (arm_branches (reject_arms Crate.crate)) (see_reject Crate.crate) (arm_branches (reject_arms Current.current))
    (see_reject Current.current) 2 2 (reject-union Crate.crate) (reject-union Current.current) reject-arm

-- rpc_body: a call is the same
pub body-call-arm : (p : ℕ) (b : Bool) (a : Answer call_body)
    → after (body_branches Crate.crate) (hold_body Crate.crate) p 0 b a
    ≡ narrowed narrow_body (after (body_branches Current.current) (hold_body Current.current) p 0 b a)
body-call-arm p b (took v m d) = refl
body-call-arm p b (refused r) = refl

-- ---- what follows, of any kind of the two readings
module _ {S T : Type 0} (f : S → Narrow T) where
  -- plain in the crate's reading: plain in the current one, of the same bytes, and the same value
  pub record SamePlain (a : Answer S) (t : T) (n : ℕ) : Type 0 where
    pub value : S
    pub takes : a ≡ took value n true
    pub is : f value ≡ same t

  same_by : (x : S) (n : ℕ) (b : Bool) (w : Narrow T) → f x ≡ w → {t : T} {k : ℕ} → narrow_by n b w ≡ took t k true → SamePlain (took x n b) t k
  same_by x n b (same y) e {t} {k} h =
      let i : y ≡ t = cc in
      let j : n ≡ k = cc in
      let l : b ≡ true = cc in
      record { value = x; takes = rw (j, l); is = e ∙ ap same i }
  same_by x n b (other y) e h = let z : false ≡ true = cc in absurd (not-true z)
  same_by x n b refused_there e h = let z : ◌≡◌ {A = ℕ} 0 1 = cc in absurd (omega arith)

  pub same-plain : (a : Answer S) {t : T} {n : ℕ} → narrowed f a ≡ took t n true → SamePlain a t n
  same-plain (took x n b) h = same_by x n b (f x) refl h
  same-plain (refused r) h = let z : ◌≡◌ {A = ℕ} 0 1 = cc in absurd (omega arith)

-- the values on which they differ
pub new-stat : (a : accept_stat) → (narrow_stat a ≡ refused_there) ↔ (Current.accept_stat_number a ≡ 5)
new-stat acceptStat.SUCCESS = (λ e. let z : ◌≡◌ {A = ℕ} 0 1 = cc in absurd (omega arith), λ e. absurd (omega arith))
new-stat acceptStat.PROG_UNAVAIL = (λ e. let z : ◌≡◌ {A = ℕ} 0 1 = cc in absurd (omega arith), λ e. absurd (omega arith))
new-stat acceptStat.PROG_MISMATCH = (λ e. let z : ◌≡◌ {A = ℕ} 0 1 = cc in absurd (omega arith), λ e. absurd (omega arith))
new-stat acceptStat.PROC_UNAVAIL = (λ e. let z : ◌≡◌ {A = ℕ} 0 1 = cc in absurd (omega arith), λ e. absurd (omega arith))
new-stat acceptStat.GARBAGE_ARGS = (λ e. let z : ◌≡◌ {A = ℕ} 0 1 = cc in absurd (omega arith), λ e. absurd (omega arith))
new-stat acceptStat.SYSTEM_ERR = (λ e. refl, λ e. refl)

pub new-auth : (a : auth_stat) → (narrow_auth a ≡ refused_there) ↔ ((Current.auth_stat_number a ≡ 0) ⊎ (6 ≤ Current.auth_stat_number a))
new-auth authStat.AUTH_OK = (λ e. inl refl, λ e. refl)
new-auth authStat.AUTH_BADCRED = (λ e. let z : ◌≡◌ {A = ℕ} 0 1 = cc in absurd (omega arith), λ e. absurd (⊎_elim (λ k. omega arith) (λ k. omega arith) e))
new-auth authStat.AUTH_REJECTEDCRED = (λ e. let z : ◌≡◌ {A = ℕ} 0 1 = cc in absurd (omega arith), λ e. absurd (⊎_elim (λ k. omega arith) (λ k. omega arith) e))
new-auth authStat.AUTH_BADVERF = (λ e. let z : ◌≡◌ {A = ℕ} 0 1 = cc in absurd (omega arith), λ e. absurd (⊎_elim (λ k. omega arith) (λ k. omega arith) e))
new-auth authStat.AUTH_REJECTEDVERF = (λ e. let z : ◌≡◌ {A = ℕ} 0 1 = cc in absurd (omega arith), λ e. absurd (⊎_elim (λ k. omega arith) (λ k. omega arith) e))
new-auth authStat.AUTH_TOOWEAK = (λ e. let z : ◌≡◌ {A = ℕ} 0 1 = cc in absurd (omega arith), λ e. absurd (⊎_elim (λ k. omega arith) (λ k. omega arith) e))
new-auth authStat.AUTH_INVALIDRESP = (λ e. inr (omega arith), λ e. refl)
new-auth authStat.AUTH_FAILED = (λ e. inr (omega arith), λ e. refl)
new-auth authStat.AUTH_KERB_GENERIC = (λ e. inr (omega arith), λ e. refl)
new-auth authStat.AUTH_TIMEEXPIRE = (λ e. inr (omega arith), λ e. refl)
new-auth authStat.AUTH_TKT_FILE = (λ e. inr (omega arith), λ e. refl)
new-auth authStat.AUTH_DECODE = (λ e. inr (omega arith), λ e. refl)
new-auth authStat.AUTH_NET_ADDR = (λ e. inr (omega arith), λ e. refl)
new-auth authStat.RPCSEC_GSS_CREDPROBLEM = (λ e. inr (omega arith), λ e. refl)
new-auth authStat.RPCSEC_GSS_CTXPROBLEM = (λ e. inr (omega arith), λ e. refl)
